use Rattle.std.proofs.Common.{◌≡◌, ℕ, [], ◌∷◌, map, get_or, sym, ap, ◌∙◌, arith}
use Rattle.std.proofs.lemmas.Option.{slice_get_within, get_or_from_slice_get}
use Rattle.afdx_port.specs.declared.Offer.{Offer}
use Rattle.afdx_count.specs.Tally.{with_copies}
use Rattle.afdx_count.proofs.Notes.{copies_step, copies_end}
use Rattle.afdx_count.proofs.ports.Ports.note_offers.Goals as goal

pub loop-asked-preserved : goal.loop-asked-preserved
loop-asked-preserved g c =
    let offers = c.args.offers.now in
    let asked = c.loop-asked.asked in
    let one = c.unwrap-port.result in
    let read = sym c.get.ensures ∙ c.unwrap-port.ensures in
    let same : get_or offers asked one ≡ one = get_or_from_slice_get offers asked one one read in
    copies_step c.args.class offers asked one c.args.self.now c.loop-asked.self c.note_offer.new.self (slice_get_within offers asked one read) c.loop-asked.invariant
    (c.note_offer.ensures ∙ ap (λ (o : ℕ × Offer). map (with_copies c.args.class (o ∷ [])) c.loop-asked.self) (sym same))

pub returns : goal.returns
returns g c = copies_end c.args.class c.args.offers.now c.loop-asked.asked c.args.self.now c.loop-asked.self (omega (arith, c.len-asked-end.ensures, c.loop-asked-test.false))
    c.loop-asked.invariant
