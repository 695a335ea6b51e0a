-- Where all that is offered to a port is admitted and nothing is aged, its counters say that no frame is lost.
use Rattle.std.proofs.Common.{◌≡◌, ℕ, ◌+◌, ◌<◌, ◌≤◌, zero, suc, Bool, true, false, cond, List, [], ◌∷◌, ◌++◌, length, map, get_or, Option, Some, option_map}
use Rattle.std.proofs.Common.{refl, ap, sym, ◌∙◌, arith, subst, append_assoc}
use Rattle.std.specs.Prelude.{Contains}
use Rattle.std.proofs.lemmas.List.{length-append}
use Rattle.std.proofs.lemmas.List.Elements.{All-from_recursion}
use Rattle.std.proofs.lemmas.Bool.{eq-eqb, ne_eqb}
use Rattle.afdx_units.specs.declared.line.Priority.{Priority}
use Rattle.afdx_units.specs.declared.line.Priority.TheVariants.{High, Low}
use Rattle.afdx_table.specs.declared.rows.PortRow.{PortRow}
use Rattle.afdx_table.specs.Content.{Content}
use Rattle.afdx_table.specs.WellFormed.{IsWellFormed, Rises}
use Rattle.afdx_port.specs.declared.Settings.{Settings}
use Rattle.afdx_port.specs.declared.Item.{Item}
use Rattle.afdx_port.specs.declared.Aged.{Aged}
use Rattle.afdx_port.specs.Service.{Event}
use Rattle.afdx_port.specs.Admission.{fits, admit, admit_all, admitted}
use Rattle.afdx_port.specs.Inner.Admission.{AdmittedInParts}
use Rattle.afdx_isolation.specs.Table.{settings_of}
use Rattle.afdx_core.specs.declared.step.Row.{Row}
use Rattle.afdx_core.specs.Rows.{each_after, feed_of}
use Rattle.afdx_core.specs.Isolation.{IsIsolatedRun}
use Rattle.afdx_core.specs.Merge.{Arrival}
use Rattle.afdx_count.specs.declared.ports.PortTally.{PortTally}
use Rattle.afdx_count.specs.Counting.{is_of}
use Rattle.afdx_count.specs.Tally.{port_in, out_of}
use Rattle.afdx_count.specs.Run.{counted, of_priority, turned_away, port_counts, events_of, counts_of}
use Rattle.afdx_session.specs.Output.{rows_of}
use Rattle.afdx_session.specs.Headline.{LosesNone}
use Rattle.afdx_session.proofs.Arriving.{run_of}

-- no more are admitted than are offered
pub length-admit_all : (s : Settings) (earlier feed : List Item) → length (admit_all s earlier feed) ≤ length earlier + length feed
length-admit_all s earlier [] = omega arith
length-admit_all s earlier (x ∷ feed) = by (fits s earlier x) (length-append earlier (x ∷ [])) (λ items. length-admit_all s items feed) where
  by : (b : Bool) → length (earlier ++ x ∷ []) ≡ length earlier + 1 → ((items : List Item) → length (admit_all s items feed) ≤ length items + length feed)
      → length (admit_all s (cond b (earlier ++ x ∷ []) earlier) feed) ≤ length earlier + suc (length feed)
  by true long more = let le = more (earlier ++ x ∷ []) in omega (arith, le, long)
  by false long more = let le = more earlier in omega (arith, le)

-- where all of a feed is admitted, each fits beside those before it
none_refused : AdmittedInParts → (s : Settings) (earlier feed : List Item) → admit_all s (admitted s earlier) feed ≡ admitted s earlier ++ feed
    → each_after (λ before x. cond (fits s (admitted s before) x) [] (x ∷ [])) earlier feed ≡ []
none_refused in_parts s earlier [] all = refl
none_refused in_parts s earlier (x ∷ feed) all = by (fits s (admitted s earlier) x) refl (none_refused in_parts s (earlier ++ x ∷ []) feed) where
  too_few : (n m k : ℕ) → n ≤ m + k → n ≡ m + suc k → ⊥
  too_few n m k le is = omega (arith, le, is)

  by : (b : Bool) → fits s (admitted s earlier) x ≡ b
      → (admit_all s (admitted s (earlier ++ x ∷ [])) feed ≡ admitted s (earlier ++ x ∷ []) ++ feed → each_after (λ before y. cond (fits s (admitted s before) y) [] (y ∷ [])) (earlier ++ x ∷ []) feed
      ≡ [])
      → cond b [] (x ∷ []) ++ each_after (λ before y. cond (fits s (admitted s before) y) [] (y ∷ [])) (earlier ++ x ∷ []) feed ≡ []
  by true fit ih =
      let taken : admit s (admitted s earlier) x ≡ admitted s earlier ++ x ∷ [] = ap (λ (b : Bool). cond b (admitted s earlier ++ x ∷ []) (admitted s earlier)) fit in
      let one : admitted s (earlier ++ x ∷ []) ≡ admitted s earlier ++ x ∷ [] = in_parts s [] earlier (x ∷ []) ∙ taken in
      ih (ap (λ (xs : List Item). admit_all s xs feed) (one ∙ sym taken) ∙ all ∙ sym (append_assoc (admitted s earlier) (x ∷ []) feed) ∙ ap (λ (xs : List Item). xs ++ feed) (sym one))
  by false fit ih =
      let left : admit s (admitted s earlier) x ≡ admitted s earlier = ap (λ (b : Bool). cond b (admitted s earlier ++ x ∷ []) (admitted s earlier)) fit in
      absurd (too_few (length (admit_all s (admitted s earlier) feed)) (length (admitted s earlier)) (length feed) (length-admit_all s (admitted s earlier) feed)
      (ap (λ (xs : List Item). length (admit_all s xs feed)) (sym left) ∙ ap length all ∙ length-append (admitted s earlier) (x ∷ feed)))

nothing_refused : AdmittedInParts → (s : Settings) (feed : List Item) → admitted s feed ≡ feed → turned_away s feed ≡ []
unfolding turned_away
nothing_refused in_parts s feed all = none_refused in_parts s [] feed all

-- the counters of a port's number are that port's: no other has its number
counters_at : (t : Content) (rows : List Row) (events : PortRow → List Event) (ports : List PortRow) → Rises ports → (k : ℕ) (d : PortRow) → k < length ports
    → port_in (get_or ports k d).id (map (port_counts t rows events) ports) ≡ Some (port_counts t rows events (get_or ports k d))
counters_at t rows events [] rises k d lt = absurd (omega (arith, lt))
counters_at t rows events (q ∷ ports) rises zero d lt =
    ap (λ (b : Bool). cond b (Some (port_counts t rows events q)) (port_in q.id (map (port_counts t rows events) ports))) (eq-eqb q.id q.id refl)
counters_at t rows events (q ∷ ports) rises (suc k) d lt =
    let above : q.id < (get_or ports k d).id = All-from_recursion (λ (p : PortRow). q.id < p.id) ports rises.0 k d (omega (arith, lt)) in
    ap (λ (b : Bool). cond b (Some (port_counts t rows events q)) (port_in (get_or ports k d).id (map (port_counts t rows events) ports)))
    (ne_eqb q.id (get_or ports k d).id (λ same. omega (arith, above, same)))
    ∙ counters_at t rows events ports rises.1 k d (omega (arith, lt))

counters_of : (t : Content) (rows : List Row) → Rises t.ports → (p : PortRow) → Contains t.ports p → port_in p.id (counts_of t rows).ports ≡ Some (port_counts t rows (events_of t rows) p)
counters_of t rows rises p at =
    subst (λ (q : PortRow). port_in q.id (counts_of t rows).ports ≡ Some (port_counts t rows (events_of t rows) q)) at.2
    (counters_at t rows (events_of t rows) t.ports rises at.0 p at.1)

pub none_lost : AdmittedInParts → (t : Content) (arrivals : List Arrival) → IsWellFormed t → IsIsolatedRun (run_of t arrivals) → (p : PortRow) → Contains t.ports p → (priority : Priority)
    → LosesNone (counts_of t (rows_of t arrivals)) p priority
none_lost in_parts t arrivals formed isolated p at priority = record {
  count = out_of priority (port_counts t (rows_of t arrivals) (events_of t (rows_of t arrivals)) p);
  count_is = ap (λ (o : Option PortTally). option_map (out_of priority) o) (counters_of t (rows_of t arrivals) formed.ports_rise p at);
  none_full = full priority;
  none_aged = aged priority;
} where
  rows : List Row
  rows = rows_of t arrivals

  refused : turned_away (settings_of t.latency p) (feed_of t p.id rows) ≡ []
  refused = nothing_refused in_parts (settings_of t.latency p) (feed_of t p.id rows) (isolated.none_full p at)

  full : (priority : Priority) → (out_of priority (port_counts t rows (events_of t rows) p)).full ≡ 0
  full High = ap (of_priority High) refused
  full Low = ap (of_priority Low) refused

  aged : (priority : Priority) → (out_of priority (port_counts t rows (events_of t rows) p)).aged ≡ 0
  aged High = ap (counted (λ (a : Aged). is_of High a.item.priority)) (isolated.none_aged p at)
  aged Low = ap (counted (λ (a : Aged). is_of Low a.item.priority)) (isolated.none_aged p at)
