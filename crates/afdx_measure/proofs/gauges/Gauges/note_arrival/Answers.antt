use Rattle.std.proofs.Common.{ℕ, List, [], ap, subst}
use Rattle.afdx_port.specs.declared.Offer.{Offer}
use Rattle.afdx_core.specs.State.{Run}
use Rattle.afdx_core.specs.Step.{Step}
use Rattle.afdx_measure.specs.Inner.Gauged.{Fill, ArePeaks}
use Rattle.afdx_measure.proofs.Arriving.{gauged_after}
use Rattle.afdx_measure.proofs.gauges.Gauges.note_arrival.Goals as goal

pub returns : goal.returns
returns g c = λ r row size gauged arrived.
    let now = c.args.relay.now.run in
    let old = c.deref_mut.result.now in
    let new = c.note_fillings.new.ports in
    let offers_are = ap (λ (s : Step). s.offers) c.step.view_is in
    let noted = subst (λ (os : List (ℕ × Offer)). (was : Run) → Fill was now c.args.at os → ArePeaks was now [] old → ArePeaks was now os new) offers_are c.note_fillings.ensures.peaks in
    gauged_after c.arrivals_join.ensures c.verdicts_name_links.ensures c.calls_add_what_is_sent.ensures.arrivals r now row c.args.at size c.args.step.now c.args.self.now.ports gauged arrived old new
    c.deref_mut.ensures.value noted c.note_fillings.ensures.delays
