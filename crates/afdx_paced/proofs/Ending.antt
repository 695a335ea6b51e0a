-- The end of a switch that is fed by time.
use Rattle.std.proofs.Common.{◌≡◌, ℕ, ◌<◌, ◌≤◌, false, List, [], ◌∷◌, ◌++◌, map, refl, ap, sym, ◌∙◌, arith}
use Rattle.std.specs.List.{AllByRecursion}
use Rattle.std.proofs.lemmas.List.{append-nil}
use Rattle.afdx_units.specs.Time.{last_second}
use Rattle.afdx_pcap.specs.Record.{Record}
use Rattle.afdx_table.specs.Content.{Content}
use Rattle.afdx_core.specs.Isolation.{IsRun}
use Rattle.afdx_core.specs.State.{Run, after_finish}
use Rattle.afdx_core.specs.Merge.{Arrival, arrivals_of, by_stamp, merged}
use Rattle.afdx_count.specs.Tally.{Tally, ended_tally}
use Rattle.afdx_count.specs.Run.{counts_so_far, counts_of}
use Rattle.afdx_count.specs.Inner.Laws.{EndCountsTheRun}
use Rattle.afdx_session.specs.Output.{rows_of}
use Rattle.afdx_session.proofs.Settling.{all_back}
use Rattle.afdx_paced.specs.Paced.{Lane, Paced, captures_of, arrivals, HasTakenAll}
use Rattle.afdx_paced.specs.Laws.{MergesAreCut}
use Rattle.afdx_paced.specs.Inner.Parts.{Parts, lanes_of, waiting_of}
use Rattle.afdx_paced.specs.Inner.Kept.{paced_of, IsOfTable, IsSameTable, ComesTo, IsCut, given_of, IsGoing}
use Rattle.afdx_paced.specs.declared.feeder.Feeder.{Feeder}
use Rattle.afdx_paced.proofs.Cutting.{parted_whole, cut_parted}

-- no record comes as late as the last instant
none_so_late : (rs : List Record) → AllByRecursion (λ (r : Record). r.stamp < last_second) rs → AllByRecursion (λ (r : Record). 4294967295999999999 ≤ r.stamp) rs → rs ≡ []
none_so_late [] early late = refl
none_so_late (r ∷ rs) early late = let before = early.0 in let after = late.0 in absurd (omega (arith, before, after))

none_waits : (lanes : List Parts) → AllByRecursion (IsCut 4294967295999999999) lanes → arrivals_of (map waiting_of lanes) ≡ []
none_waits [] cut = refl
none_waits (l ∷ lanes) cut =
    let none = none_so_late l.waiting (all_back (λ (r : Record). r.stamp < last_second) l.gone l.waiting cut.0.sorted.early) cut.0.waiting in
    ap (λ (rs : List Record). map (λ (r : Record). record { port = l.port; frame = r }) rs ++ arrivals_of (map waiting_of lanes)) none ∙ none_waits lanes cut.1

-- so all that came in was given to the switch
all_given : {Z : Type 0} → MergesAreCut → (f : Feeder Z) → IsGoing 4294967295999999999 f → given_of f.lanes.items ≡ merged (captures_of (lanes_of f.lanes.items))
all_given cut f going =
    sym (parted_whole cut 4294967295999999999 f.lanes.items (cut_parted 4294967295999999999 f.lanes.items going.cut)
    ∙ ap (λ (xs : List Arrival). given_of f.lanes.items ++ by_stamp xs) (none_waits f.lanes.items going.cut)
    ∙ append-nil (given_of f.lanes.items))

pub counted : {Z : Type 0} → MergesAreCut → EndCountsTheRun → (old new : Feeder Z) (h : ℕ) (v : Paced) (r : Run) (counts : Tally) → paced_of old h false ≡ v → IsSameTable old.switch new.switch
    → ComesTo old new
    → IsOfTable new → IsGoing 4294967295999999999 new → r ≡ after_finish new.switch.run → counts ≡ ended_tally r new.counts → counts ≡ counts_of v.table (rows_of v.table (arrivals v))
counted cut law old new h v r counts view same comes of going finished are =
    let t = new.switch.run.table in
    are
    ∙ ap (λ (x : Run). ended_tally x new.counts) finished
    ∙ ap (ended_tally (after_finish new.switch.run)) (going.counts_are ∙ ap (counts_so_far t) (sym going.is_given.rows))
    ∙ law new.switch.run of.formed
    ∙ ap (counts_of t) (going.is_given.rows ∙ ap (rows_of t) (all_given cut new going ∙ ap (λ (ls : List Lane). merged (captures_of ls)) comes.lanes))
    ∙ ap (λ (c : Content). counts_of c (rows_of c (merged (captures_of (lanes_of old.lanes.items))))) same.table
    ∙ ap (λ (w : Paced). counts_of w.table (rows_of w.table (arrivals w))) view

-- and the finished switch has taken all that came in
pub taken_all : {Z : Type 0} → MergesAreCut → (old new : Feeder Z) (h : ℕ) (v : Paced) (r : Run) → paced_of old h false ≡ v → IsSameTable old.switch new.switch → ComesTo old new
    → IsGoing 4294967295999999999 new → IsRun r → r ≡ after_finish new.switch.run → HasTakenAll v r
taken_all cut old new h v r view same comes going run finished = record {
  table = ap (λ (x : Run). x.table) finished ∙ same.table ∙ ap (λ (w : Paced). w.table) view;
  rows = ap (λ (x : Run). x.rows) finished ∙ going.is_given.rows
      ∙ ap (rows_of new.switch.run.table) (all_given cut new going ∙ ap (λ (ls : List Lane). merged (captures_of ls)) comes.lanes)
      ∙ ap (λ (c : Content). rows_of c (merged (captures_of (lanes_of old.lanes.items)))) same.table
      ∙ ap (λ (w : Paced). rows_of w.table (arrivals w)) view;
  is_run = run;
  all = ap (λ (x : Run). x.finished) finished;
}
