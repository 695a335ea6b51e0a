-- The counts of a port and of a link, by the parts of a run.
use Rattle.std.proofs.Common.{◌≡◌, ℕ, ◌+◌, ◌<◌, ◌==◌, ◌&&◌, nat_eq, Bool, true, false, cond, List, [], ◌∷◌, ◌++◌, map, filter, find, Option, Some, None, option_map, refl, sym, ap, ◌∙◌, arith}
use Rattle.std.proofs.Common.{append_assoc, inl, inr}
use Rattle.std.specs.Prelude.{count_by}
use Rattle.std.specs.List.{AllByRecursion, IsDistinct}
use Rattle.std.proofs.lemmas.Bool.{cases_Bool, eqb-true, ne_eqb}
use Rattle.std.proofs.lemmas.List.{append-nil}
use Rattle.std.proofs.lemmas.Option.{none-some, gets, slice_get-map}
use Rattle.std.proofs.lemmas.Cmp.{nat_eq_equiv}
use Rattle.std.proofs.lemmas.List.Folds.{find_at}
use Rattle.std.proofs.lemmas.List.Recursion.{same_from_clauses}
use Rattle.std.proofs.lemmas.List.Sums.{passes_at_first}
use Rattle.std.specs.List.{position_or_len}
use Rattle.std.specs.Prelude.{slice_get, not}
use Rattle.afdx_units.specs.declared.line.Priority.{Priority}
use Rattle.afdx_units.specs.declared.line.Priority.TheVariants.{High, Low}
use Rattle.afdx_table.specs.declared.rows.PortRow.{PortRow}
use Rattle.afdx_table.specs.Link.{Link, names_port, leads_to}
use Rattle.afdx_table.specs.Content.{Content, link_row, port_row}
use Rattle.afdx_table.specs.WellFormed.{Rises, IsLink, IsWellFormed}
use Rattle.afdx_filter.specs.declared.outcome.Verdict.{Verdict}
use Rattle.afdx_filter.specs.declared.outcome.Verdict.TheVariants.{Cut, Short, Long, Foreign, NoLink, WrongPort, TooBig, Clean}
use Rattle.afdx_port.specs.declared.Settings.{Settings}
use Rattle.afdx_port.specs.declared.Sent.{Sent}
use Rattle.afdx_port.specs.declared.Aged.{Aged}
use Rattle.afdx_port.specs.declared.Item.{Item}
use Rattle.afdx_port.specs.declared.Offer.{Offer}
use Rattle.afdx_port.specs.Service.{Event, sent_of, aged_of}
use Rattle.afdx_core.specs.declared.step.Row.{Row}
use Rattle.afdx_core.specs.declared.step.Fate.TheVariants.{Passed, Policed}
use Rattle.afdx_core.specs.Rows.{each_after, fates_of, feed_of, fate_of, fate_by, named, passes, copy_of, copies_by, copies}
use Rattle.afdx_core.specs.State.{Run, answer_of, offers_by, offers_of, step_of, sent_in, aged_in, after_finish}
use Rattle.afdx_core.specs.Inner.Appended.{OneMoreFateIsAppended, NewCopiesAreAppended, OneMoreItemIsAppended}
use Rattle.afdx_isolation.specs.Table.{settings_of}
use Rattle.afdx_count.specs.declared.counters.InCount.{InCount}
use Rattle.afdx_count.specs.declared.ports.PortTally.{PortTally}
use Rattle.afdx_count.specs.declared.links.LinkTally.{LinkTally}
use Rattle.afdx_count.specs.Counting.{capped, with_fate, is_of, answers_of, with_answers, with_ended}
use Rattle.afdx_count.specs.Tally.{with_arrival, with_class, with_copies, class_of, noted_link, noted_port, ended_port, ended_tally}
use Rattle.afdx_count.specs.Run.{of_priority, turned_away, arrivals_at, input_counts, output_counts, port_counts, link_tally, counts_so_far, events_of, run_after, steps_of, noted_all}
use Rattle.afdx_count.specs.Inner.Laws.{StartsWithNone, NoteCountsOneMore, EndCountsTheRun, NotesCountTheRun}
use Rattle.afdx_count.proofs.Notes.{map_twice}
use Rattle.afdx_count.proofs.Runs.{input-push, link-push, answer_after, one_offered, other_offered}

-- ---- the rows of a table

found_all : {X : Type 0} (P : X → Type 0) (p : X → Bool) (xs : List X) (y : X) → AllByRecursion P xs → find p xs ≡ Some y → P y
found_all P p [] y all is = absurd (none-some y is)
found_all P p (x ∷ xs) y all is = by_head (p x) is (found_all P p xs y all.1) where
  by_head : (b : Bool) → cond b (Some x) (find p xs) ≡ Some y → (find p xs ≡ Some y → P y) → P y
  by_head true e ih = let same : x ≡ y = (cc) in rw (sym same) all.0
  by_head false e ih = ih e

pub named_row : (t : Content) (v : Verdict) (l : Link) → named t v ≡ Some l → link_row t l.id ≡ Some l
named_row t (Clean i) l is = ap (link_row t) (eqb-true l.id i (grind (arith, gets, is, find_at (λ (m : Link). m.id == i) t.links, passes_at_first (λ (m : Link). m.id == i) t.links l))) ∙ is
named_row t Cut l is = absurd (none-some l is)
named_row t Short l is = absurd (none-some l is)
named_row t Long l is = absurd (none-some l is)
named_row t Foreign l is = absurd (none-some l is)
named_row t NoLink l is = absurd (none-some l is)
named_row t WrongPort l is = absurd (none-some l is)
named_row t TooBig l is = absurd (none-some l is)

targets_once : (t : Content) (l : Link) → IsWellFormed t → link_row t l.id ≡ Some l → IsDistinct nat_eq l.to
targets_once t l formed is = let link = found_all (IsLink t.ports) (λ (m : Link). m.id == l.id) t.links l formed.links is in link.targets.once

-- each port is found by its number
pub ports_found : (ps : List PortRow) → Rises ps → AllByRecursion (λ (p : PortRow). find (λ (q : PortRow). q.id == p.id) ps ≡ Some p) ps
ports_found [] rises = tt
ports_found (p ∷ ps) rises =
    (ap (λ b. cond b (Some p) (find (λ (q : PortRow). q.id == p.id) ps)) (nat_eq_equiv.refl p.id), later ps rises.0 (ports_found ps rises.1)) where
      later : (qs : List PortRow) → AllByRecursion (λ (q : PortRow). p.id < q.id) qs → AllByRecursion (λ (q : PortRow). find (λ (o : PortRow). o.id == q.id) ps ≡ Some q) qs
          → AllByRecursion (λ (q : PortRow). find (λ (o : PortRow). o.id == q.id) (p ∷ ps) ≡ Some q) qs
      later [] above found = tt
      later (q ∷ qs) above found =
          (ap (λ b. cond b (Some p) (find (λ (o : PortRow). o.id == q.id) ps)) (ne_eqb p.id q.id (λ e. omega (arith, above.0, e))) ∙ found.0, later qs above.1 found.1)

map_all : {X Y : Type 0} (P : X → Type 0) (f g : X → Y) (xs : List X) → AllByRecursion P xs → ((x : X) → P x → f x ≡ g x) → map f xs ≡ map g xs
map_all P f g [] all h = refl
map_all P f g (x ∷ xs) all h = (λ j. h x all.0 j ∷ map_all P f g xs all.1 h j)

-- ---- the answers of one port

none_of : (A : ℕ → Offer) (port : ℕ) (to : List ℕ) → AllByRecursion (λ (q : ℕ). nat_eq port q ≡ false) to → answers_of port (map (λ q. (q, A q)) to) ≡ []
none_of A port [] all = refl
none_of A port (q ∷ to) all =
    ap (λ b. map (λ (o : ℕ × Offer). o.1) (cond b ((q, A q) ∷ filter (λ (o : ℕ × Offer). o.0 == port) (map (λ q. (q, A q)) to)) (filter (λ (o : ℕ × Offer). o.0 == port) (map (λ q. (q, A q)) to))))
    (nat_eq_equiv.symm q port ∙ all.0)
    ∙ none_of A port to all.1

pub answers_once : (A : ℕ → Offer) (port : ℕ) (to : List ℕ) → IsDistinct nat_eq to → answers_of port (map (λ q. (q, A q)) to) ≡ cond (names_port port to) (A port ∷ []) []
unfolding IsDistinct
answers_once A port [] d = refl
answers_once A port (q ∷ to) d =
    elim (cases_Bool (nat_eq q port)) [
      | inl hit ↦ let e = eqb-true q port hit in rw hit ((λ j. A (e j) ∷ none_of A port to (rw e at d.0) j))
      | inr miss ↦ rw miss (answers_once A port to d.1)
    ]

-- ---- a port

class-is : (t : Content) (rows : List Row) (l : Link) → link_row t l.id ≡ Some l → class_of (Passed l.id) (map (link_tally t rows) t.links) ≡ Some l.priority
class-is t rows l is =
    let place : position_or_len (λ (m : LinkTally). m.id == l.id) (map (link_tally t rows) t.links) ≡ position_or_len (λ (k : Link). k.id == l.id) t.links
    = same_from_clauses (λ ls. position_or_len (λ (m : LinkTally). m.id == l.id) (map (link_tally t rows) ls)) (position_or_len (λ (k : Link). k.id == l.id))
    (λ k n. cond (not (k.id == l.id)) (1 + n) 0) refl (λ _ _. refl) (λ _ _. refl) t.links in
    ap (option_map (λ (m : LinkTally). m.priority)) (find_at (λ (m : LinkTally). m.id == l.id) (map (link_tally t rows) t.links) ∙ ap (slice_get (map (link_tally t rows) t.links)) place
    ∙ slice_get-map (link_tally t rows) t.links _ ∙ ap (option_map (link_tally t rows)) (sym (find_at (λ (k : Link). k.id == l.id) t.links) ∙ is))

module _ (one_item : OneMoreItemIsAppended) (r : Run) (row : Row) (p : PortRow) where
  abbrev feed : List Item
  feed = feed_of r.table p.id r.rows

  -- the counts of the port, with this input and feed
  abbrev with_feed : InCount → List Item → PortTally
  with_feed input items = record { id = p.id; input = input; high = output_counts High (settings_of r.table.latency p) items []; low = output_counts Low (settings_of r.table.latency p) items [] }

  abbrev added : Priority → List Offer → PortTally → PortTally
  added High offers q = record q { high = with_answers offers q.high }
  added Low offers q = record q { low = with_answers offers q.low }

  added-is : (class : Priority) (offers : List (ℕ × Offer)) (q : PortTally) → with_copies class offers q ≡ added class (answers_of q.id offers) q
  added-is High offers q = refl
  added-is Low offers q = refl

  one_added : (class : Priority) (leads : Bool) (input : InCount) (x : Item) → x.priority ≡ class
      → added class (cond leads (answer_after (settings_of r.table.latency p) feed x ∷ []) []) (with_feed input feed) ≡ with_feed input (feed ++ cond leads (x ∷ []) [])
  one_added High false input x is = ap (with_feed input) (sym (append-nil feed))
  one_added Low false input x is = ap (with_feed input) (sym (append-nil feed))
  one_added High true input x is =
      let e1 = one_offered one_item High (settings_of r.table.latency p) feed x [] (ap (is_of High) is) in
      let e2 = other_offered one_item Low (settings_of r.table.latency p) feed x [] (ap (is_of Low) is) in
      (λ j. record { id = p.id; input = input; high = sym e1 j; low = sym e2 j })
  one_added Low true input x is =
      let e1 = other_offered one_item High (settings_of r.table.latency p) feed x [] (ap (is_of High) is) in
      let e2 = one_offered one_item Low (settings_of r.table.latency p) feed x [] (ap (is_of Low) is) in
      (λ j. record { id = p.id; input = input; high = sym e1 j; low = sym e2 j })

  copied : (input : InCount) → IsWellFormed r.table → port_row r.table p.id ≡ Some p
      → with_class (class_of (fate_of r.table r.rows row) (map (link_tally r.table r.rows) r.table.links)) (offers_of r row) (with_feed input feed)
      ≡ with_feed input (feed ++ copies r.table p.id r.rows row)
  copied input formed found = by_link (named r.table row.verdict) refl where
    links : List LinkTally
    links = map (link_tally r.table r.rows) r.table.links

    answers : Link → ℕ → Offer
    answers l port = answer_of r (copy_of l r.rows row) (port_row r.table port)

    by_pass : (l : Link) (b : Bool) → link_row r.table l.id ≡ Some l
        → with_class (class_of (cond b (Passed l.id) (Policed l.id)) links) (cond b (map (λ port. (port, answers l port)) l.to) []) (with_feed input feed)
        ≡ with_feed input (feed ++ cond (b && leads_to p.id l) (copy_of l r.rows row ∷ []) [])
    by_pass l false is = ap (with_feed input) (sym (append-nil feed))
    by_pass l true is =
        ap (λ o. with_class o (map (λ port. (port, answers l port)) l.to) (with_feed input feed)) (class-is r.table r.rows l is)
        ∙ added-is l.priority (map (λ port. (port, answers l port)) l.to) (with_feed input feed)
        ∙ ap (λ offers. added l.priority offers (with_feed input feed))
        (answers_once (answers l) p.id l.to (targets_once r.table l formed is)
        ∙ ap (λ o. cond (leads_to p.id l) (answer_of r (copy_of l r.rows row) o ∷ []) []) found)
        ∙ one_added l.priority (leads_to p.id l) input (copy_of l r.rows row) refl

    by_link : (m : Option Link) → named r.table row.verdict ≡ m
        → with_class (class_of (fate_by m r.rows row) links) (offers_by r m row) (with_feed input feed) ≡ with_feed input (feed ++ copies_by m p.id r.rows row)
    by_link None is = ap (with_feed input) (sym (append-nil feed))
    by_link (Some l) is = by_pass l (passes l r.rows row) (named_row r.table row.verdict l is)

  arrived : with_arrival row.in_port (fate_of r.table r.rows row) (port_counts r.table r.rows (λ q. []) p) ≡ with_feed (input_counts (arrivals_at p.id (r.rows ++ row ∷ []))) feed
  arrived =
      elim (cases_Bool (nat_eq p.id row.in_port)) [
        | inl hit ↦ rw hit (ap (λ i. with_feed i feed) (sym (input-push r.table p.id r.rows row
            ∙ ap (λ b. cond b (with_fate (fate_of r.table r.rows row) (input_counts (arrivals_at p.id r.rows))) (input_counts (arrivals_at p.id r.rows))) hit)))
        | inr miss ↦ rw miss (ap (λ i. with_feed i feed) (sym (input-push r.table p.id r.rows row
            ∙ ap (λ b. cond b (with_fate (fate_of r.table r.rows row) (input_counts (arrivals_at p.id r.rows))) (input_counts (arrivals_at p.id r.rows))) miss)))
      ]

  pub port-push : NewCopiesAreAppended → IsWellFormed r.table → port_row r.table p.id ≡ Some p
      → noted_port (class_of (fate_of r.table r.rows row) (map (link_tally r.table r.rows) r.table.links)) (step_of r row) (port_counts r.table r.rows (λ q. []) p)
      ≡ port_counts r.table (r.rows ++ row ∷ []) (λ q. []) p
  port-push appended formed found =
      ap (with_class (class_of (fate_of r.table r.rows row) (map (link_tally r.table r.rows) r.table.links)) (offers_of r row)) arrived
      ∙ copied (input_counts (arrivals_at p.id (r.rows ++ row ∷ []))) formed found
      ∙ ap (with_feed (input_counts (arrivals_at p.id (r.rows ++ row ∷ [])))) (sym (appended r.table p.id r.rows row))

-- ---- the laws

pub note_counts_one_more : OneMoreFateIsAppended → NewCopiesAreAppended → OneMoreItemIsAppended → NoteCountsOneMore
note_counts_one_more one_fate new_copies one_item r row formed =
    let ports = map_twice (port_counts r.table r.rows (λ q. [])) (noted_port (class_of (fate_of r.table r.rows row) (map (link_tally r.table r.rows) r.table.links)) (step_of r row)) r.table.ports
    ∙ map_all _ _ (port_counts r.table (r.rows ++ row ∷ []) (λ q. [])) r.table.ports (ports_found r.table.ports formed.ports_rise) (λ p found. port-push one_item r row p new_copies formed found) in
    let links = map_twice (link_tally r.table r.rows) (noted_link (fate_of r.table r.rows row)) r.table.links
    ∙ (λ j. map (λ l. link-push one_fate r.table r.rows row l j) r.table.links) in
    (λ j. record { ports = ports j; links = links j })

zero_start : (n : ℕ) → capped (capped 0 + n) ≡ capped n
zero_start n = omega arith

ended_output : (priority : Priority) (s : Settings) (feed : List Item) (events : List Event) → with_ended priority (sent_of events) (aged_of events) (output_counts priority s feed [])
    ≡ output_counts priority s feed events
ended_output priority s feed events =
    let e1 = zero_start (count_by (λ (a : Aged). is_of priority a.item.priority) (aged_of events)) in
    let e2 = zero_start (count_by (λ (e : Sent). is_of priority e.item.priority) (sent_of events)) in
    (λ j. record { offered = of_priority priority feed; full = of_priority priority (turned_away s feed); aged = e1 j; sent = e2 j })

ended_is : (r : Run) (p : PortRow) → port_row r.table p.id ≡ Some p → ended_port (after_finish r) (port_counts r.table r.rows (λ q. []) p) ≡ port_counts r.table r.rows (events_of r.table r.rows) p
ended_is r p found = ap with_row found ∙ whole where
  with_row : Option PortRow → PortTally
  with_row o = record (port_counts r.table r.rows (λ q. []) p) {
    high = with_ended High (sent_in (after_finish r) o) (aged_in (after_finish r) o) (output_counts High (settings_of r.table.latency p) (feed_of r.table p.id r.rows) []);
    low = with_ended Low (sent_in (after_finish r) o) (aged_in (after_finish r) o) (output_counts Low (settings_of r.table.latency p) (feed_of r.table p.id r.rows) []);
  }

  whole : with_row (Some p) ≡ port_counts r.table r.rows (events_of r.table r.rows) p
  whole =
      let high = ended_output High (settings_of r.table.latency p) (feed_of r.table p.id r.rows) (events_of r.table r.rows p) in
      let low = ended_output Low (settings_of r.table.latency p) (feed_of r.table p.id r.rows) (events_of r.table r.rows p) in
      (λ j. record { id = p.id; input = input_counts (arrivals_at p.id r.rows); high = high j; low = low j })

pub end_counts_the_run : EndCountsTheRun
end_counts_the_run r formed =
    let ports = map_twice (port_counts r.table r.rows (λ q. [])) (ended_port (after_finish r)) r.table.ports
    ∙ map_all _ _ (port_counts r.table r.rows (events_of r.table r.rows)) r.table.ports (ports_found r.table.ports formed.ports_rise) (λ p found. ended_is r p found) in
    (λ j. record { ports = ports j; links = map (link_tally r.table r.rows) r.table.links })

pub starts_with_none : StartsWithNone
unfolding feed_of fates_of turned_away
starts_with_none t = refl

notes_from : NoteCountsOneMore → (t : Content) (before rows : List Row) → IsWellFormed t
    → noted_all (each_after (λ b row. step_of (run_after t b) row ∷ []) before rows) (counts_so_far t before) ≡ counts_so_far t (before ++ rows)
notes_from one_more t before [] formed = ap (counts_so_far t) (sym (append-nil before))
notes_from one_more t before (row ∷ rows) formed =
    ap (noted_all (each_after (λ b row. step_of (run_after t b) row ∷ []) (before ++ row ∷ []) rows)) (one_more (run_after t before) row formed)
    ∙ notes_from one_more t (before ++ row ∷ []) rows formed
    ∙ ap (counts_so_far t) (append_assoc before (row ∷ []) rows)

pub notes_count_the_run : NoteCountsOneMore → NotesCountTheRun
notes_count_the_run one_more t rows formed =
    ap (λ tally. ended_tally (after_finish (run_after t rows)) (noted_all (steps_of t rows) tally)) (starts_with_none t)
    ∙ ap (ended_tally (after_finish (run_after t rows))) (notes_from one_more t [] rows formed)
    ∙ end_counts_the_run (run_after t rows) formed
