use Rattle.std.proofs.Common.{ℕ, [], ◌∷◌, ap, ◌∙◌, map, refl, arith}
use Rattle.afdx_count.specs.declared.ports.PortTally.{PortTally}
use Rattle.afdx_count.specs.Tally.{with_copies}
use Rattle.afdx_count.proofs.Placed.{changed_within, lies_within, numbers_kept, still_indexed}
use Rattle.afdx_count.proofs.Notes.{one_copy_at, numbers_copies}
use Rattle.afdx_count.proofs.ports.Ports.note_offer.Goals as goal

pub index_mut-requires : goal.index_mut-requires
index_mut-requires g c =
    let inside = lies_within (λ (p : PortTally). p.id) c.args.port c.self.inside.count c.self.inside.tallies.items c.args.self.now c.place-place.result c.self.view_is c.self.invariant.2
    c.place-place.ensures.place in
    omega (arith, inside, c.self.inside.tallies.ok.0)

pub returns : goal.returns
returns g c =
    changed_within (λ (p : PortTally). p.id) c.args.port (with_copies c.args.class ((c.args.port, c.args.offer) ∷ [])) c.self.inside.count c.self.inside.tallies.items c.args.self.now
    c.place-place.result c.index_mut.result.now c.note_offer.new.self c.self.view_is c.self.invariant.2 c.place-place.ensures.distinct c.place-place.ensures.place c.index_mut.ensures.value
    (λ same. c.note_offer.ensures ∙ ap (λ (n : ℕ). with_copies c.args.class ((n, c.args.offer) ∷ []) c.index_mut.result.now) same)
    ∙ one_copy_at c.args.class c.args.port c.args.offer c.args.self.now

pub invariant_of-self : goal.invariant_of-self
invariant_of-self g c =
    still_indexed (λ (p : PortTally). p.id) c.self.inside.places c.self.inside.count c.self.inside.tallies.items _
    (numbers_kept (λ (p : PortTally). p.id) (map (λ (p : PortTally). p.id) c.self.inside.tallies.items) c.self.inside.tallies.items c.place-place.result c.index_mut.result.now
    c.note_offer.new.self refl
    (ap (λ (p : PortTally). p.id) c.note_offer.ensures ∙ numbers_copies c.args.class ((c.index_mut.result.now.id, c.args.offer) ∷ []) c.index_mut.result.now) c.index_mut.ensures.value)
    c.self.invariant
