use Rattle.std.proofs.Common.{◌≡◌, ℕ, List, slice_get, Some, None, get_or, sym, ◌∙◌, subst, arith}
use Rattle.std.proofs.lemmas.List.{take_all}
use Rattle.std.proofs.lemmas.Option.{slice_get_within, get_or_from_slice_get}
use Rattle.afdx_port.specs.declared.Offer.{Offer}
use Rattle.afdx_port.specs.declared.Offer.TheVariants.{Full, Queued}
use Rattle.afdx_core.specs.State.{occupied_in, place_of}
use Rattle.afdx_measure.specs.Inner.Gauged.{ArePeaks, IsFilledAt}
use Rattle.afdx_measure.proofs.Peaks.{peaks_next, stay_on}
use Rattle.afdx_measure.proofs.gauges.note_fillings.Goals as goal

pub loop-asked-preserved : goal.loop-asked-preserved
loop-asked-preserved g c =
    let now = c.args.relay.now.run in
    let offers = c.args.offers.now in
    let asked = c.loop-asked.asked in
    let old = c.loop-asked.ports in
    let new = c.note_offer.new.ports in
    let one = c.unwrap-port.result in
    let read = sym c.get.ensures ∙ c.unwrap-port.ensures in
    let same : one ≡ get_or offers asked one = sym (get_or_from_slice_get offers asked one one read) in
    record {
      peaks = λ r fill before.
          peaks_next c.ports_are_distinct.ensures r now c.args.at offers fill asked one (slice_get_within offers asked one read) old
          (c.loop-asked.invariant.peaks r fill before) new
          (subst (λ (o : ℕ × Offer). (place : ℕ) → o.1 ≡ Queued → place_of now o.0 ≡ Some place
          → IsFilledAt place (record { bytes = occupied_in now (slice_get now.table.ports place); at = c.args.at }) old new) same c.note_offer.ensures.queued)
          (subst (λ (o : ℕ × Offer). o.1 ≡ Full → new ≡ old) same c.note_offer.ensures.full)
          (subst (λ (o : ℕ × Offer). place_of now o.0 ≡ None → new ≡ old) same c.note_offer.ensures.nowhere);
      delays = stay_on c.args.ports.now old new c.loop-asked.invariant.delays c.note_offer.ensures.delays;
    }

pub returns-clause-peaks : goal.returns-clause-peaks
returns-clause-peaks g c = λ r fill before.
    subst (λ (os : List (ℕ × Offer)). ArePeaks r c.args.relay.now.run os c.loop-asked.ports)
    (take_all c.loop-asked.asked c.args.offers.now (omega (arith, c.len-asked-end.ensures, c.loop-asked-test.false)))
    (c.loop-asked.invariant.peaks r fill before)
