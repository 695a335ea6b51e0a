-- The outcome of a session is that of a run over the whole captures.
use Rattle.std.proofs.Common.{◌≡◌, ℕ, zero, suc, ◌<◌, ◌==◌, Bool, false, cond, List, [], ◌∷◌, map, drop, slice_get, Some, refl, ap, sym, ◌∙◌, arith, subst, get_or}
use Rattle.std.specs.Prelude.{find}
use Rattle.std.specs.List.{AllByRecursion}
use Rattle.std.proofs.lemmas.Option.{same_Some}
use Rattle.std.proofs.lemmas.Bool.{eq-eqb, ne_eqb}
use Rattle.std.proofs.lemmas.Simd.{map-map}
use Rattle.afdx_table.specs.declared.rows.PortRow.{PortRow}
use Rattle.afdx_table.specs.Content.{Content}
use Rattle.afdx_table.specs.WellFormed.{IsWellFormed}
use Rattle.afdx_table.specs.WellFormed as table
use Rattle.afdx_port.specs.Inner.Admission.{EarlierEventsStayAdmitted}
use Rattle.afdx_port.specs.Inner.Order.{ReachesInOrder}
use Rattle.afdx_core.specs.State.{after_finish}
use Rattle.afdx_core.specs.Merge.{Arrival, Capture, merged}
use Rattle.afdx_core.specs.Inner.Merge.{ByStampIsOrdered}
use Rattle.afdx_count.specs.Tally.{ended_tally}
use Rattle.afdx_count.specs.Run.{counts_so_far, counts_of}
use Rattle.afdx_count.specs.Inner.Laws.{EndCountsTheRun}
use Rattle.afdx_session.specs.declared.lane.Lane.{Lane}
use Rattle.afdx_session.specs.declared.machine.Machine.{Machine}
use Rattle.afdx_session.specs.Texts.{Text}
use Rattle.afdx_session.specs.Output.{rows_of, output_text, outputs}
use Rattle.afdx_session.specs.Outcome.{Results, IsOutcome}
use Rattle.afdx_session.specs.Headline.{AcceptedRunsIsolate}
use Rattle.afdx_session.specs.Streams.{captures_of, AllStartBeforeTheLastInstant}
use Rattle.afdx_session.specs.Session.{Intake, Seen, taken_in}
use Rattle.afdx_session.specs.Finish.{rest_of, texts_in, IsFinished}
use Rattle.afdx_session.specs.Inner.Lanes.{intake_of}
use Rattle.afdx_session.specs.Inner.Kept.{AreOfTable, IsRunning, IsMarked, IsOfSameTable}
use Rattle.afdx_session.specs.Inner.View.{intakes_of, texts_at, seen_of, AreHalfDone, AreEndedLanes, IsKeptMachine}
use Rattle.afdx_session.proofs.Numbered.{all_slice_get}
use Rattle.afdx_session.proofs.Gone.{port_of_lane}
use Rattle.afdx_session.proofs.Ending.{TakenAreTheCapture, are_captures, output_is, given_all}
use Rattle.afdx_session.proofs.Shown.{half_ports}

-- ---- the intake of each port

pub find_intake : {Z : Type 0} (ports : List PortRow) (lanes : List (Lane Z)) (k : ℕ) (l : Lane Z) → table.Rises ports → map (λ (m : Lane Z). m.port) lanes ≡ map (λ (p : PortRow). p.id) ports
    → slice_get lanes k ≡ Some l
    → find (λ (i : Intake). i.port == l.port) (intakes_of lanes) ≡ Some (intake_of l)
find_intake ports [] k l rises same at = absurd cc
find_intake [] (m ∷ lanes) k l rises same at = absurd cc
find_intake {Z = Z} (p ∷ ports) (m ∷ lanes) zero l rises same at =
    subst (λ (x : Lane Z). find (λ (i : Intake). i.port == x.port) (intakes_of (m ∷ lanes)) ≡ Some (intake_of x)) (same_Some m l at)
    (ap (λ b. cond b (Some (intake_of m)) (find (λ (i : Intake). i.port == m.port) (intakes_of lanes))) (eq-eqb m.port m.port refl))
find_intake {Z = Z} (p ∷ ports) (m ∷ lanes) (suc k) l rises same at =
    let more = ap (drop 1) same in
    let head = ap (λ (ns : List ℕ). get_or ns 0 0) same in
    let q = port_of_lane ports lanes k l more at in
    let above = all_slice_get (λ (other : PortRow). p.id < other.id) ports k q.0 rises.0 q.1 in
    let own = q.2 in
    ap (λ b. cond b (Some (intake_of m)) (find (λ (i : Intake). i.port == l.port) (intakes_of lanes))) (ne_eqb m.port l.port (λ same. omega (arith, head, above, own, same)))
    ∙ find_intake ports lanes k l rises.1 more at

-- lists with the same at each place
pub same_lists : {X Y W : Type 0} (f : X → W) (g : Y → W) (i : X → ℕ) (j : Y → ℕ) (xs : List X) (ys : List Y) → map i xs ≡ map j ys
    → ((k : ℕ) (x : X) (y : Y) → slice_get xs k ≡ Some x → slice_get ys k ≡ Some y → f x ≡ g y) → map f xs ≡ map g ys
same_lists f g i j [] [] same each = refl
same_lists f g i j [] (y ∷ ys) same each = absurd cc
same_lists f g i j (x ∷ xs) [] same each = absurd cc
same_lists f g i j (x ∷ xs) (y ∷ ys) same each =
    ap (λ w. w ∷ map f xs) (each 0 x y refl refl)
    ∙ ap (λ ws. g y ∷ ws) (same_lists f g i j xs ys (ap (drop 1) same) (λ k. each (suc k)))

pub text_ports : {Z : Type 0} (lanes : List (Lane Z)) → map (λ (text : Text). text.0) (texts_at lanes) ≡ map (λ (l : Lane Z). l.port) lanes
text_ports [] = refl
text_ports {Z = Z} (l ∷ lanes) = ap (λ ns. l.port ∷ ns) (text_ports lanes)

pub half_intakes : {Z : Type 0} (old new : List (Lane Z)) → AreHalfDone old new → intakes_of new ≡ intakes_of old
half_intakes [] [] half = refl
half_intakes [] (n ∷ new) half = absurd half
half_intakes (l ∷ old) [] half = absurd half
half_intakes (l ∷ old) (n ∷ new) half = ap (λ i. i ∷ intakes_of new) half.0.intake ∙ ap (λ is. intake_of l ∷ is) (half_intakes old new half.1)

-- ---- the outcome

pub finished : {Z : Type 0} → ByStampIsOrdered → EarlierEventsStayAdmitted → ReachesInOrder → AllStartBeforeTheLastInstant → TakenAreTheCapture → EndCountsTheRun → AcceptedRunsIsolate
    → (old new : Machine Z) (begun : Bool) (results : Results) → IsKeptMachine old begun false
    → IsOfSameTable old.switch new.switch → AreHalfDone old.lanes.items new.lanes.items → AreEndedLanes old.lanes.items new.lanes.items
    → IsRunning new.switch.run.table new.lanes.items new.switch new.counts
    → results.captures ≡ map (λ (l : Lane Z). (l.port, l.out.items)) new.lanes.items → results.counts ≡ ended_tally (after_finish new.switch.run) new.counts
    → IsFinished (seen_of old begun false) results
finished {Z} ordered stay reaches ends takes law isolate old new begun results kept same half closed running captures counts = record {
  none_failed = refl;
  whole = whole;
  outcome = outcome;
  captures = captures ∙ same_lists (λ (l : Lane Z). (l.port, l.out.items)) (λ (p : PortRow). rest_of v (p.id, output_text t (merged read) p)) (λ (l : Lane Z). l.port) (λ (p : PortRow). p.id)
      new.lanes.items t.ports of.ports rest
      ∙ sym (map-map (rest_of v) (λ (p : PortRow). (p.id, output_text t (merged read) p)) t.ports);
  counts = counts ∙ ap (ended_tally (after_finish new.switch.run)) counted ∙ law new.switch.run formed
      ∙ ap (λ (c : Content). counts_of c new.switch.run.rows) run.going.is_given.table ∙ ap (counts_of t) run.going.is_given.rows ∙ ap (λ (xs : List Arrival). counts_of t (rows_of t xs)) (sym given);
  isolated = λ accepted. isolate t (texts_in v) whole kept.of.formed (kept.accepted accepted) outcome;
} where
  v : Seen
  v = seen_of old begun false

  t : Content
  t = old.switch.run.table

  run : IsRunning t new.lanes.items new.switch new.counts
  run = subst (λ (c : Content). IsRunning c new.lanes.items new.switch new.counts) same.table running

  of : AreOfTable t new.lanes.items
  of = record { formed = kept.of.formed; ports = half_ports old.lanes.items new.lanes.items half ∙ kept.of.ports }

  read : List Capture
  read = captures_of run.going.streams

  whole : Results
  whole = record { captures = outputs t (merged read); counts = counts_of t (rows_of t (merged read)) }

  marked : AllByRecursion (IsMarked begun) old.lanes.items
  marked = (kept.ready refl).marked

  outcome : IsOutcome t (texts_in v) whole
  outcome = record {
    ports = text_ports old.lanes.items ∙ kept.of.ports;
    read = read;
    are_read = are_captures takes begun old.lanes.items new.lanes.items run.going.streams marked closed run.going.lanes_are;
    captures = refl;
    counts = refl;
  }

  rest : (k : ℕ) (l : Lane Z) (p : PortRow) → slice_get new.lanes.items k ≡ Some l → slice_get t.ports k ≡ Some p → (l.port, l.out.items) ≡ rest_of v (p.id, output_text t (merged read) p)
  rest k l p is_lane is_port =
      let q = port_of_lane t.ports new.lanes.items k l of.ports is_lane in
      let id : p.id ≡ l.port = ap (λ (x : PortRow). x.id) (same_Some p q.0 (sym is_port ∙ q.1)) ∙ q.2 in
      let found : find (λ (i : Intake). i.port == p.id) (intakes_of old.lanes.items) ≡ Some (intake_of l) =
      ap (λ n. find (λ (i : Intake). i.port == n) (intakes_of old.lanes.items)) id ∙ ap (λ is. find (λ (i : Intake). i.port == l.port) is) (sym (half_intakes old.lanes.items new.lanes.items half))
      ∙ find_intake t.ports new.lanes.items k l of.formed.ports_rise of.ports is_lane in
      ap (λ n. (n, l.out.items)) (sym id)
      ∙ ap (λ text. (p.id, text)) (output_is ordered stay reaches ends t old.lanes.items new.lanes.items new.switch new.counts run k p l of closed is_port is_lane)
      ∙ ap (λ o. (p.id, drop (taken_in o) (output_text t (merged read) p))) (sym found)

  given : merged read ≡ run.going.given
  given = given_all ordered t old.lanes.items new.lanes.items new.switch new.counts run closed

  formed : IsWellFormed new.switch.run.table
  formed = subst IsWellFormed (sym same.table) kept.of.formed

  counted : new.counts ≡ counts_so_far new.switch.run.table new.switch.run.rows
  counted = run.going.counts_are ∙ ap (λ (c : Content). counts_so_far c (rows_of t run.going.given)) (sym run.going.is_given.table)
      ∙ ap (counts_so_far new.switch.run.table) (sym run.going.is_given.rows)
