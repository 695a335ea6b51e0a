-- When the records of captures that are read side by side came.
use Rattle.std.proofs.Common.{◌<◌, ◌+◌, ℕ, List, [], ◌∷◌, ◌++◌, length, map, Option, sym, ap, ◌∙◌, arith, subst}
use Rattle.std.specs.List.{AllByRecursion}
use Rattle.std.specs.Option.{option_map}
use Rattle.std.proofs.lemmas.List.{length-map}
use Rattle.std.proofs.lemmas.Option.{slice_get-map}
use Rattle.afdx_units.specs.Time.{last_second}
use Rattle.afdx_pcap.specs.Record.{Record}
use Rattle.afdx_pcap.proofs.Early.{capture_early}
use Rattle.afdx_table.specs.declared.rows.PortRow.{PortRow}
use Rattle.afdx_merging.specs.Merge.{Arrival as Came, arrival_at, at_place, numbered_from, same_clock}
use Rattle.afdx_merging.specs.Read.{AreMerged}
use Rattle.afdx_merging.proofs.Timed.{there_at, of_each_place, IsTimed}
use Rattle.afdx_trace_run.specs.Inner.Running.{clocks_of}

-- ---- lists

pub all_but_last : {X : Type 0} (P : X → Type 0) (xs : List X) (x : X) → AllByRecursion P (xs ++ x ∷ []) → AllByRecursion P xs
all_but_last P [] x all = tt
all_but_last P (y ∷ xs) x all = (all.0, all_but_last P xs x all.1)

-- ---- arrivals, once all were read

numbered_timed : (place n : ℕ) (rs : List Record) → AllByRecursion (λ (r : Record). r.stamp < last_second) rs
    → AllByRecursion IsTimed (map (arrival_at place same_clock) (numbered_from n same_clock rs))
numbered_timed place n [] early = tt
numbered_timed place n (r ∷ rs) early = (record { due = omega arith; early = (let first = early.0 in omega (arith, first)) }, numbered_timed place (n + 1) rs early.1)

pub merged_timed : {R : Type 0} (remaining : R → Option (List ℕ)) (ports : List PortRow) (first : List R) (came : List Came) → AreMerged remaining (clocks_of ports) first came
    → AllByRecursion IsTimed came
merged_timed remaining ports first came all = of_each_place IsTimed (length (clocks_of ports)) came all.merge.within each where
  each : (k : ℕ) → k < length (clocks_of ports) → AllByRecursion IsTimed (at_place k came)
  each k lt =
      let rs = there_at all.captures k (let many = all.merge.many in omega (arith, lt, many)) in
      let text = there_at all.texts k (let many = all.merge.many in let same = all.are.many in omega (arith, lt, many, same)) in
      let p = there_at ports k (let count = length-map ports (λ (q : PortRow). same_clock) in omega (arith, lt, count)) in
      subst (AllByRecursion IsTimed)
      (sym (all.merge.each k same_clock rs.0 (slice_get-map (λ (x : PortRow). same_clock) ports k ∙ ap (option_map (λ (x : PortRow). same_clock)) p.1) rs.1))
      (numbered_timed k 1 rs.0 (capture_early text.0 rs.0 (all.are.each k text.0 rs.0 text.1 rs.1)))
