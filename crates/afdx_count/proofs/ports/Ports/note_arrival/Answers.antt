use Rattle.std.proofs.Common.{ap, map, refl, arith}
use Rattle.afdx_count.specs.declared.ports.PortTally.{PortTally}
use Rattle.afdx_count.specs.Counting.{with_fate}
use Rattle.afdx_count.proofs.Placed.{changed_within, lies_within, numbers_kept, still_indexed}
use Rattle.afdx_count.proofs.ports.Ports.note_arrival.Goals as goal

pub index_mut-requires : goal.index_mut-requires
index_mut-requires g c =
    let inside = lies_within (λ (p : PortTally). p.id) c.args.in_port c.self.inside.count c.self.inside.tallies.items c.args.self.now c.place-place.result c.self.view_is c.self.invariant.2
    c.place-place.ensures.place in
    omega (arith, inside, c.self.inside.tallies.ok.0)

pub returns : goal.returns
returns g c =
    changed_within (λ (p : PortTally). p.id) c.args.in_port (λ p. record p { input = with_fate c.args.fate p.input }) c.self.inside.count c.self.inside.tallies.items c.args.self.now
    c.place-place.result c.index_mut.result.now c.note_fate.new.self c.self.view_is c.self.invariant.2 c.place-place.ensures.distinct c.place-place.ensures.place c.index_mut.ensures.value
    (λ same. c.note_fate.ensures)

pub invariant_of-self : goal.invariant_of-self
invariant_of-self g c =
    still_indexed (λ (p : PortTally). p.id) c.self.inside.places c.self.inside.count c.self.inside.tallies.items _
    (numbers_kept (λ (p : PortTally). p.id) (map (λ (p : PortTally). p.id) c.self.inside.tallies.items) c.self.inside.tallies.items c.place-place.result c.index_mut.result.now
    c.note_fate.new.self refl
    (ap (λ (p : PortTally). p.id) c.note_fate.ensures) c.index_mut.ensures.value)
    c.self.invariant
