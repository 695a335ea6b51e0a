-- The arrivals of merged captures are a run of a switch.
use Rattle.std.proofs.Common.{ℕ, ◌<◌, ◌≤◌, true, List, [], ◌∷◌, map}
use Rattle.std.proofs.Common.{refl, arith}
use Rattle.std.specs.List.{AllByRecursion}
use Rattle.std.proofs.lemmas.List.Elements.{All-from_recursion}
use Rattle.afdx_units.specs.Time.{last_second}
use Rattle.afdx_table.specs.Content.{Content}
use Rattle.afdx_account.specs.Level.{InOrder}
use Rattle.afdx_core.specs.declared.step.Row.{Row}
use Rattle.afdx_core.specs.Rows.{frame_of_row}
use Rattle.afdx_core.specs.State.{Run}
use Rattle.afdx_core.specs.Isolation.{IsOfAnArrival, IsRun}
use Rattle.afdx_core.specs.Merge.{Arrival}
use Rattle.afdx_core.specs.Inner.Merge.{AreInOrder, ByStampIsOrdered}
use Rattle.afdx_session.specs.Texts.{Text}
use Rattle.afdx_session.specs.Reading.{AreMerged}
use Rattle.afdx_session.specs.Output.{rows_of}
use Rattle.afdx_session.proofs.Joining.{AllFrom, frames-from}
use Rattle.afdx_session.proofs.Gathering.{merged_early, merged_in_order}

rows_are : (t : Content) (arrivals : List Arrival) → AllByRecursion (IsOfAnArrival t) (rows_of t arrivals)
rows_are t [] = tt
rows_are t (a ∷ arrivals) = ((a.port, a.frame, refl), rows_are t arrivals)

rows_in_order : (t : Content) (from : ℕ) (arrivals : List Arrival) → AllFrom from arrivals → AreInOrder arrivals → InOrder from (map frame_of_row (rows_of t arrivals))
rows_in_order t from [] all rises = tt
rows_in_order t from (a ∷ arrivals) all rises = (all.0, rows_in_order t a.frame.stamp arrivals (frames-from a.frame.stamp arrivals rises.0) rises.1)

from_zero : (arrivals : List Arrival) → AllFrom 0 arrivals
from_zero [] = tt
from_zero (a ∷ arrivals) = (omega arith, from_zero arrivals)

rows_by : (t : Content) (arrivals : List Arrival) → AllByRecursion (λ (a : Arrival). a.frame.stamp < last_second) arrivals
    → AllByRecursion (λ (row : Row). row.stamp ≤ last_second) (rows_of t arrivals)
rows_by t [] all = tt
rows_by t (a ∷ arrivals) all = (let lt = all.0 in omega (arith, lt), rows_by t arrivals all.1)

abbrev pub run_of : Content → List Arrival → Run
run_of t arrivals = record { table = t; rows = rows_of t arrivals; latest = last_second; handed = []; finished = true }

pub arrivals_are_a_run : ByStampIsOrdered → (t : Content) (texts : List Text) (arrivals : List Arrival) → AreMerged texts arrivals → IsRun (run_of t arrivals)
arrivals_are_a_run ordered t texts arrivals are = record {
  arrivals = All-from_recursion (IsOfAnArrival t) (rows_of t arrivals) (rows_are t arrivals);
  stamps = rows_in_order t 0 arrivals (from_zero arrivals) (merged_in_order ordered texts arrivals are);
  latest = All-from_recursion (λ (row : Row). row.stamp ≤ last_second) (rows_of t arrivals) (rows_by t arrivals (merged_early ordered texts arrivals are));
}
