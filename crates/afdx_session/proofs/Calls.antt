-- A call that has read on: what is settled goes to the switch, the switch comes to the frontier, and what has left goes out.
use Rattle.std.proofs.Common.{◌≡◌, ℕ, ◌-◌, ◌<◌, ◌≤◌, Bool, true, false, List, ◌++◌, length, take, set, get_or, slice_get, Option, Some, refl, ap, sym, ◌∙◌, subst}
use Rattle.std.specs.List.{AllByRecursion}
use Rattle.std.specs.Option.{option_map}
use Rattle.std.specs.Prelude.{Result, Ok, Err, is_err, OnOk, IfErr}
use Rattle.std.specs.declared.vec.Vec.{Vec}
use Rattle.std.specs.Vec.{with_items}
use Rattle.std.proofs.lemmas.Option.{same_Some, slice_get_within, slice_get-get_or}
use Rattle.afdx_table.specs.Content.{Content}
use Rattle.afdx_core.specs.State.{Run, State, after_advance}
use Rattle.afdx_core.specs.Held.{Keeps}
use Rattle.afdx_core.specs.Merge.{Arrival}
use Rattle.afdx_core.specs.Inner.Merge.{ByStampIsOrdered, MergedIsAMerge, MergedIsByStampAndPort}
use Rattle.afdx_count.specs.Tally.{Tally}
use Rattle.afdx_pcap.specs.Record.{Record}
use Rattle.afdx_pcap.specs.Capture.{IsCapture}
use Rattle.afdx_pcap.specs.Reading.{IsSound}
use Rattle.afdx_session.specs.declared.lane.Lane.{Lane}
use Rattle.afdx_session.specs.declared.machine.Machine.{Machine}
use Rattle.afdx_session.specs.declared.plan.RunFault.{RunFault}
use Rattle.afdx_session.specs.declared.plan.RunFault.TheVariants as run
use Rattle.afdx_session.specs.Reading.{IsFaultAt}
use Rattle.afdx_session.specs.Inner.Settled.{IsGiven, HandsOut}
use Rattle.afdx_session.specs.Session.{IsSoundSoFar}
use Rattle.afdx_session.specs.Lanes.{IsPieceFault}
use Rattle.afdx_session.specs.Inner.Lanes.{limit_at, IsStill, Adds, HasReadAll, NoneGoes}
use Rattle.afdx_session.specs.Inner.Kept.{AreOfTable, come_to, AreOut, Every, IsGoing, HasCome, IsRunning, AreTouched, AreGrown, IsOfSameTable, IsMarked}
use Rattle.afdx_session.specs.Inner.View.{IsReady, IsOpenAt, AreHalfDone, AreSettledLanes, IsFed, IsEnded, IsNotFed, IsNotEnded, OthersStay, intakes_of}
use Rattle.afdx_session.proofs.Going.{reads_on}
use Rattle.afdx_session.proofs.Given.{comes_on, no_going_back}
use Rattle.afdx_session.proofs.Numbered.{all_slice_get}
use Rattle.afdx_session.proofs.Shown.{half_ports}
use Rattle.afdx_session.proofs.ReadUp.{all_set, touched_read_up, settled_read_up}
use Rattle.afdx_session.proofs.Gone.{grown_length, grown_off, runs_on}
use Rattle.afdx_session.proofs.Settles.{back_items}
use Rattle.afdx_session.proofs.Intakes.{touched_ports, still_of_table, half_at, half_touched, fed_half, ended_half, intakes_after, fed_intake, ended_intake, marked_bytes, settled_marked}
use Rattle.afdx_session.proofs.Intakes.{running_settled}

-- ---- the switch

pub advanced_same : (mid adv : State) (to : ℕ) → adv.run ≡ after_advance to mid.run → Keeps mid adv → IsOfSameTable mid adv
advanced_same mid adv to run keeps = record {
  table = ap (λ (r : Run). r.table) run;
  accepted = keeps.accepted;
  keeps = keeps.lists;
  handed = ap (λ (r : Run). length r.handed) run;
}

pub handed_same : (adv next : State) → HandsOut adv next → IsOfSameTable adv next
handed_same adv next hands = record { table = hands.table; accepted = hands.accepted; keeps = hands.keeps; handed = hands.handed }

-- it came to the frontier
pub machine_comes : {Z : Type 0} → ByStampIsOrdered → (mid : Machine Z) (adv : State) (limit : Option (ℕ × ℕ)) (to : ℕ) (first : Option (ℕ × ℕ))
    → IsGoing mid.switch.run.table mid.lanes.items mid.switch mid.counts → limit ≡ limit_at mid.lanes.items
    → NoneGoes (limit_at mid.lanes.items) mid.lanes.items first → to ≡ come_to (option_map (λ (p : ℕ × ℕ). p.0) limit) → adv.run ≡ after_advance to mid.switch.run → Keeps mid.switch adv
    → HasCome mid.switch.run.table mid.lanes.items adv mid.counts
machine_comes ordered mid adv limit to first going is none to_is run keeps =
    comes_on ordered mid.switch.run.table mid.lanes.items mid.switch adv mid.counts first to going none (to_is ∙ ap (λ o. come_to (option_map (λ (p : ℕ × ℕ). p.0) o)) is) run keeps

-- that is no going back
pub machine_no_back : {Z : Type 0} (mid : Machine Z) (limit : Option (ℕ × ℕ)) (to : ℕ) → IsGoing mid.switch.run.table mid.lanes.items mid.switch mid.counts → limit ≡ limit_at mid.lanes.items → to
    ≡ come_to (option_map (λ (p : ℕ × ℕ). p.0) limit)
    → to < mid.switch.run.latest → ⊥
machine_no_back mid limit to going is to_is lt =
    no_going_back mid.switch.run.table mid.lanes.items mid.switch mid.counts to going (to_is ∙ ap (λ o. come_to (option_map (λ (p : ℕ × ℕ). p.0) o)) is) lt

-- what a call's answer says
pub ok_reported : {T E : Type 0} (r : Result T E) (P : Type 0) → is_err r ≡ false → OnOk r P → P
ok_reported (Ok x) P reported holds = holds
ok_reported (Err e) P reported holds = absurd cc

pub err_reported : {T E : Type 0} (r : Result T E) (P : E → Type 0) (Q : Type 0) → is_err r ≡ true → IfErr r P → ((e : E) → P e → Q) → Q
err_reported (Ok x) P Q reported holds use_it = absurd cc
err_reported (Err e) P Q reported holds use_it = use_it e holds

pub handed_stays : (old new : State) → IsOfSameTable old new → length old.run.handed ≡ length old.run.table.ports → length new.run.handed ≡ length new.run.table.ports
handed_stays old new same handed = same.handed ∙ handed ∙ ap (λ (c : Content). length c.ports) (sym same.table)

-- the lanes that were drained are written back
pub drained_back : {Z : Type 0} (v : Vec (Lane Z) Z) (start now : List (Lane Z)) → start ≡ v.items → AreGrown start now → AreGrown v.items (with_items v now).items
drained_back {Z = Z} v start now is grown =
    let here = subst (λ (ls : List (Lane Z)). AreGrown ls now) is grown in
    subst (λ (ls : List (Lane Z)). AreGrown v.items ls) (sym (back_items v now (grown_length v.items now here))) here

-- all has gone out
pub machine_runs : {Z : Type 0} (mid : Machine Z) (adv next : State) (start now : List (Lane Z)) (come : HasCome mid.switch.run.table mid.lanes.items adv mid.counts)
    → AreOfTable mid.switch.run.table mid.lanes.items → adv.run.table ≡ mid.switch.run.table → HandsOut adv next
    → start ≡ mid.lanes.items → AreGrown start now
    → ((t : Content) (given : List Arrival) (h : ℕ) → AreOfTable t start → IsGiven t given adv → h ≤ adv.run.latest → AreOut t given h adv start Every → AreOut t given adv.run.latest next now Every)
    → IsRunning next.run.table (with_items mid.lanes now).items next mid.counts
machine_runs {Z} mid adv next start now come of table hands is grown out =
    subst (λ (c : Content). IsRunning c (with_items mid.lanes now).items next mid.counts) (sym (hands.table ∙ table))
    (subst (λ (ls : List (Lane Z)). IsRunning t ls next mid.counts) (sym (back_items mid.lanes now (grown_length mid.lanes.items now here)))
    (runs_on t mid.lanes.items now adv next mid.counts come (grown_off mid.lanes.items now here) hands outs)) where
      t : Content
      t = mid.switch.run.table

      here : AreGrown mid.lanes.items now
      here = subst (λ (ls : List (Lane Z)). AreGrown ls now) is grown

      goes : (t : Content) (given : List Arrival) (h : ℕ) → AreOfTable t mid.lanes.items → IsGiven t given adv → h ≤ adv.run.latest → AreOut t given h adv mid.lanes.items Every
          → AreOut t given adv.run.latest next now Every
      goes = subst (λ (ls : List (Lane Z)). (t : Content) (given : List Arrival) (h : ℕ) → AreOfTable t ls → IsGiven t given adv → h ≤ adv.run.latest → AreOut t given h adv ls Every
          → AreOut t given adv.run.latest next now Every) is out

      outs : AreOut t come.going.given adv.run.latest next now Every
      outs = goes t come.going.given come.going.since of come.going.is_given come.going.come come.going.outs

-- ---- the lanes of a call

pub touched_table : {Z : Type 0} (old new : Machine Z) → AreTouched old.lanes.items new.lanes.items → IsOfSameTable old.switch new.switch → AreOfTable old.switch.run.table old.lanes.items
    → AreOfTable new.switch.run.table new.lanes.items
touched_table {Z = Z} old new touched same of =
    subst (λ (c : Content). AreOfTable c new.lanes.items) (sym same.table)
    (still_of_table old.switch.run.table old.lanes.items new.lanes.items (touched_ports old.lanes.items new.lanes.items touched) of)

-- the lane that may be fed or closed, as the code reads it
open_at : {Z : Type 0} (lanes : List (Lane Z)) (port k : ℕ) (d : Lane Z) → IsOpenAt lanes port k → (slice_get lanes k ≡ Some (get_or lanes k d)) × ((get_or lanes k d).closed ≡ false)
open_at {Z} lanes port k d is = (here, ap (λ (l : Lane Z). l.closed) (same_Some (get_or lanes k d) is.lane (sym here ∙ is.at)) ∙ is.still_open) where
  here : slice_get lanes k ≡ Some (get_or lanes k d)
  here = slice_get-get_or lanes k d (slice_get_within lanes k is.lane is.at)

pub reads_open : {Z : Type 0} (lanes : List (Lane Z)) (port k : ℕ) (old d : Lane Z) → IsOpenAt lanes port k → old ≡ get_or lanes k d → (slice_get lanes k ≡ Some old) × (old.closed ≡ false)
reads_open {Z = Z} lanes port k old d is read = subst (λ (l : Lane Z). (slice_get lanes k ≡ Some l) × (l.closed ≡ false)) (sym read) (open_at lanes port k d is)

pub marked_at : {Z : Type 0} (begun : Bool) (lanes : List (Lane Z)) (k : ℕ) (l : Lane Z) → AllByRecursion (IsMarked begun) lanes → slice_get lanes k ≡ Some l → IsMarked begun l
marked_at begun lanes k l all at = all_slice_get (IsMarked begun) lanes k l all at

-- it was read on, or not
pub half_fed : {Z : Type 0} (begun : Bool) (lanes : List (Lane Z)) (k : ℕ) (old new : Lane Z) → AllByRecursion (IsMarked begun) lanes → slice_get lanes k ≡ Some old → IsStill old new
    → take (length new.reader.bytes - new.undone) new.reader.bytes ≡ old.reader.bytes
    → AreHalfDone lanes (set lanes k new)
half_fed begun lanes k old new all at still bytes = half_at lanes k old new at (fed_half old new still (marked_at begun lanes k old all at).undone bytes)

pub half_ended : {Z : Type 0} (lanes : List (Lane Z)) (k : ℕ) (old new : Lane Z) → slice_get lanes k ≡ Some old → IsStill old new → new.undone ≡ old.undone → new.reader.bytes ≡ old.reader.bytes
    → AreHalfDone lanes (set lanes k new)
half_ended lanes k old new at still undone bytes = half_at lanes k old new at (ended_half old new still undone bytes)

pub half_of_table : {Z : Type 0} (t : Content) (old new : List (Lane Z)) → AreHalfDone old new → AreOfTable t old → AreOfTable t new
half_of_table t old new half of = still_of_table t old new (half_ports old new half) of

pub lane_reads_on : {Z : Type 0} → ByStampIsOrdered → MergedIsAMerge → MergedIsByStampAndPort → (begun : Bool) (m : Machine Z) (k : ℕ) (old new : Lane Z) (more : List Record)
    → AreOfTable m.switch.run.table m.lanes.items
    → IsReady m begun
    → slice_get m.lanes.items k ≡ Some old → old.closed ≡ false → IsStill old new → Adds old new more → IsGoing m.switch.run.table (set m.lanes.items k new) m.switch m.counts
lane_reads_on ordered merge sorted begun m k old new more of ready at still_open still adds =
    reads_on ordered merge sorted m.switch.run.table m.lanes.items m.switch m.counts k old new more of at
    ((all_slice_get HasReadAll m.lanes.items k old ready.read at).ended ∙ sym (marked_at begun m.lanes.items k old ready.marked at).closed ∙ still_open)
    still.port (ap (λ o. o.items) still.out) still.taken adds ready.running.going

-- all that came was read, before what has left goes out
pub read_after : {Z : Type 0} (lanes b : List (Lane Z)) (k : ℕ) (new : Lane Z) → AllByRecursion HasReadAll lanes → HasReadAll new → AreTouched (set lanes k new) b → AllByRecursion HasReadAll b
read_after lanes b k new all read touched = touched_read_up (set lanes k new) b touched (all_set HasReadAll lanes k new all read)

-- a piece did not come
pub not_fed : {Z : Type 0} (begun : Bool) (lanes b : List (Lane Z)) (k : ℕ) (old new : Lane Z) (piece : List ℕ) (fault : RunFault) → AllByRecursion (IsMarked begun) lanes → slice_get lanes k
    ≡ Some old → IsStill old new
    → take (length new.reader.bytes - new.undone) new.reader.bytes ≡ old.reader.bytes → AreTouched (set lanes k new) b → IsPieceFault (old.reader.bytes ++ piece) old.port fault
    → IsNotFed lanes b k piece fault
not_fed begun lanes b k old new piece fault all at still bytes touched why = record {
  lane = old;
  at = at;
  half = half_touched lanes (set lanes k new) b (half_fed begun lanes k old new all at still bytes) touched;
  why = subst (λ (xs : List ℕ). IsPieceFault (xs ++ piece) old.port fault) (sym (marked_bytes begun old (marked_at begun lanes k old all at))) why;
}

-- a capture did not end
pub not_ended : {Z : Type 0} (begun : Bool) (lanes b : List (Lane Z)) (k : ℕ) (old new : Lane Z) (fault : RunFault) → AllByRecursion (IsMarked begun) lanes → slice_get lanes k ≡ Some old
    → IsStill old new → new.undone ≡ old.undone → new.reader.bytes ≡ old.reader.bytes
    → AreTouched (set lanes k new) b → IsFaultAt old.reader.bytes old.port fault → IsNotEnded lanes b k fault
not_ended begun lanes b k old new fault all at still undone bytes touched why = record {
  lane = old;
  at = at;
  half = half_touched lanes (set lanes k new) b (half_ended lanes k old new at still undone bytes) touched;
  why = subst (λ (xs : List ℕ). IsFaultAt xs old.port fault) (sym (marked_bytes begun old (marked_at begun lanes k old all at))) why;
}

-- and no other lane has changed
pub others_stay : {Z : Type 0} (lanes : List (Lane Z)) (k : ℕ) (new : Lane Z) (fault : RunFault) → OthersStay lanes (set lanes k new) k fault
others_stay lanes k new run.Memory = tt
others_stay lanes k new (run.Capture port why) = (new, refl)
others_stay lanes k new run.WrongPorts = tt
others_stay lanes k new run.Closed = tt
others_stay lanes k new run.Failed = tt

-- a piece came, and the call has answered Ok
pub is_fed : {Z : Type 0} (begun : Bool) (lanes b c : List (Lane Z)) (k : ℕ) (old new : Lane Z) (piece : List ℕ) → AllByRecursion (IsMarked begun) lanes → slice_get lanes k ≡ Some old
    → IsMarked begun old → IsStill old new → new.reader.bytes ≡ old.reader.bytes ++ piece
    → new.reader.closed ≡ old.reader.closed → IsSoundSoFar (old.reader.bytes ++ piece) → AreTouched (set lanes k new) b → AreSettledLanes b c → IsFed lanes c k piece
is_fed begun lanes b c k old new piece all at marked still bytes closed sound touched settled = record {
  lane = old;
  at = at;
  intakes = intakes_after begun lanes b c k new all touched settled ∙ ap (set (intakes_of lanes) k) (fed_intake begun old new piece marked still.port bytes (closed ∙ sym marked.closed) still.taken);
  sound = subst (λ (xs : List ℕ). IsSoundSoFar (xs ++ piece)) (sym (marked_bytes begun old marked)) sound;
}

sound_so_far : {Z : Type 0} (l : Lane Z) → HasReadAll l → l.reader.closed ≡ false → IsSoundSoFar l.reader.bytes
sound_so_far l read still_open = subst (IsSound l.reader.bytes l.reader.given) still_open read.sound

pub piece_came : {Z : Type 0} (begun : Bool) (lanes b c : List (Lane Z)) (k : ℕ) (old new : Lane Z) (piece : List ℕ) → AllByRecursion (IsMarked begun) lanes → slice_get lanes k ≡ Some old → old.closed
    ≡ false → IsStill old new → new.reader.bytes ≡ old.reader.bytes ++ piece
    → new.reader.closed ≡ false → HasReadAll new → AreTouched (set lanes k new) b → AreSettledLanes b c → IsFed lanes c k piece
piece_came begun lanes b c k old new piece all at was_open still bytes still_open read touched settled =
    let marked = marked_at begun lanes k old all at in
    is_fed begun lanes b c k old new piece all at marked still bytes (still_open ∙ sym (sym marked.closed ∙ was_open)) (subst IsSoundSoFar bytes (sound_so_far new read still_open)) touched settled

-- it ended, and the call has answered Ok
pub is_ended : {Z : Type 0} (begun : Bool) (lanes b c : List (Lane Z)) (k : ℕ) (old new : Lane Z) (records : List Record) → AllByRecursion (IsMarked begun) lanes → slice_get lanes k ≡ Some old
    → IsMarked begun old → IsStill old new → new.reader.bytes ≡ old.reader.bytes
    → new.reader.closed ≡ true → IsCapture old.reader.bytes records → AreTouched (set lanes k new) b → AreSettledLanes b c → IsEnded lanes c k
is_ended begun lanes b c k old new records all at marked still bytes closed capture touched settled = record {
  lane = old;
  at = at;
  intakes = intakes_after begun lanes b c k new all touched settled ∙ ap (set (intakes_of lanes) k) (ended_intake begun old new marked still.port bytes closed still.taken);
  records = records;
  capture = subst (λ (xs : List ℕ). IsCapture xs records) (sym (marked_bytes begun old marked)) capture;
}

pub capture_ended : {Z : Type 0} (begun : Bool) (lanes b c : List (Lane Z)) (k : ℕ) (old new : Lane Z) → AllByRecursion (IsMarked begun) lanes → slice_get lanes k ≡ Some old → IsStill old new
    → new.reader.bytes ≡ old.reader.bytes → new.reader.closed ≡ true → HasReadAll new
    → AreTouched (set lanes k new) b → AreSettledLanes b c → IsEnded lanes c k
capture_ended begun lanes b c k old new all at still bytes closed read touched settled =
    let sound = subst (IsSound new.reader.bytes new.reader.given) closed read.sound in
    is_ended begun lanes b c k old new sound.0 all at (marked_at begun lanes k old all at) still bytes closed (subst (λ (xs : List ℕ). IsCapture xs sound.0) bytes sound.1) touched settled

-- all that was read counts, so that the next call may go on
pub is_ready : {Z : Type 0} (mid next : Machine Z) → AreSettledLanes mid.lanes.items next.lanes.items → next.switch ≡ mid.switch → next.counts ≡ mid.counts
    → IsRunning mid.switch.run.table mid.lanes.items mid.switch mid.counts
    → AllByRecursion HasReadAll mid.lanes.items → IsReady next true
is_ready {Z = Z} mid next settled switch counts running read = record {
  running = subst (λ (s : State). IsRunning s.run.table next.lanes.items s next.counts) (sym switch)
      (subst (λ (c : Tally). IsRunning mid.switch.run.table next.lanes.items mid.switch c) (sym counts)
      (running_settled mid.switch.run.table mid.lanes.items next.lanes.items mid.switch mid.counts settled running));
  read = settled_read_up mid.lanes.items next.lanes.items settled read;
  marked = settled_marked mid.lanes.items next.lanes.items settled;
}
