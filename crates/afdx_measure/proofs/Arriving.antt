-- What is noted agrees with the run after an arrival.
use Rattle.std.proofs.Common.{◌≡◌, ℕ, List, [], length, get_or, slice_get, ap, sym, ◌∙◌, subst}
use Rattle.std.specs.declared.vec.Vec.{Vec}
use Rattle.std.specs.Vec.{with_items}
use Rattle.std.proofs.lemmas.List.{with_items_is}
use Rattle.afdx_table.specs.Content.{Content}
use Rattle.afdx_port.specs.declared.Offer.{Offer}
use Rattle.afdx_core.specs.declared.step.Row.{Row}
use Rattle.afdx_core.specs.Step.{Step}
use Rattle.afdx_core.specs.State.{Run, offers_of}
use Rattle.afdx_core.specs.Inner.Agreement.{VerdictsNameLinks}
use Rattle.afdx_core.specs.Inner.Joining.{GoesOn, ArrivalsGoOn, ArrivalsJoin}
use Rattle.afdx_measure.specs.declared.gauges.AtPort.{AtPort}
use Rattle.afdx_measure.specs.Inner.Arriving.{HasArrived}
use Rattle.afdx_measure.specs.Inner.Gauged.{AreGauged, Fill, ArePeaks, DelaysStay}
use Rattle.afdx_measure.proofs.Fills.{fills}
use Rattle.afdx_measure.proofs.Handing.{are_gauged_after}

module _ {Z : Type 0} (join : ArrivalsJoin) (names : VerdictsNameLinks) (goes : ArrivalsGoOn) (r now : Run) (row : Row) (at size : ℕ) (step : Step)
    (v : Vec (AtPort Z) Z) (h : AreGauged r (record { ports = v }))
    (arrived : HasArrived r row at size step now) where
  table_is : now.table ≡ r.table
  table_is = ap (λ (m : Run). m.table) arrived.now_is

  fill : Fill r now at step.offers
  fill =
      let there = subst (λ (m : Run). Fill r m row.stamp (offers_of r row)) (sym arrived.now_is) (fills join names r row h.formed arrived.is_run) in
      let then = subst (λ (n : ℕ). Fill r now n (offers_of r row)) (sym arrived.at_is) there in
      subst (λ (os : List (ℕ × Offer)). Fill r now at os) (sym (ap (λ (s : Step). s.offers) arrived.step_is)) then

  -- the peaks before any answer
  before : (old : List (AtPort Z)) → old ≡ v.items → ArePeaks r now [] old
  before old is = record {
    many = ap (λ (xs : List (AtPort Z)). length xs) is ∙ h.many ∙ sym (ap (λ (t : Content). length t.ports) table_is);
    each = λ k p a here. ap (λ (xs : List (AtPort Z)). (get_or xs k a).peak) is ∙ (h.each k p a (sym (ap (λ (t : Content). slice_get t.ports k) table_is) ∙ here)).peak;
  }

  pub gauged_after : (old new : List (AtPort Z)) → old ≡ v.items → ((was : Run) → Fill was now at step.offers → ArePeaks was now [] old → ArePeaks was now step.offers new) → DelaysStay old new
      → AreGauged now (record { ports = with_items v new })
  gauged_after old new is noted stay =
      let items_is = with_items_is v new (stay.long ∙ ap (λ (xs : List (AtPort Z)). length xs) is ∙ sym v.ok.0) in
      are_gauged_after r now table_is (ap (λ (m : Run). m.handed) arrived.now_is) (subst (GoesOn r) (sym arrived.now_is) (goes r row arrived.still_open arrived.in_order)) at step.offers
      (record { ports = v }) (with_items v new) fill (subst (ArePeaks r now step.offers) (sym items_is) (noted r fill (before old is)))
      (subst (λ (xs : List (AtPort Z)). DelaysStay xs (with_items v new).items) is (subst (DelaysStay old) (sym items_is) stay)) h
