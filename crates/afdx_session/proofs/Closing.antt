-- Captures that have not ended end, one lane after the other.
use Rattle.std.proofs.Common.{◌≡◌, ℕ, zero, suc, ◌+◌, ◌≤◌, Bool, true, false, List, [], ◌∷◌, length, set, slice_get, Some, None, ap, sym, ◌∙◌, subst}
use Rattle.std.specs.List.{AllByRecursion}
use Rattle.std.proofs.lemmas.Option.{same_Some}
use Rattle.afdx_pcap.specs.Record.{Record}
use Rattle.afdx_core.specs.Inner.Merge.{ByStampIsOrdered, MergedIsAMerge, MergedIsByStampAndPort}
use Rattle.afdx_session.specs.declared.lane.Lane.{Lane}
use Rattle.afdx_session.specs.declared.machine.Machine.{Machine}
use Rattle.afdx_session.specs.declared.plan.RunFault.{RunFault}
use Rattle.afdx_session.specs.Reading.{IsFaultAt, IsReadFault}
use Rattle.afdx_session.specs.Streams.{Stream}
use Rattle.afdx_session.specs.Inner.Lanes.{IsStill, Adds, HasReadAll}
use Rattle.afdx_session.specs.Inner.Kept.{AreLanesOf, AreOfTable, IsGoing, IsMarked}
use Rattle.afdx_session.specs.Inner.View.{IsReady, AreHalfDone, AreEndedLanes, texts_at}
use Rattle.afdx_session.proofs.Going.{reads_on}
use Rattle.afdx_session.proofs.Intakes.{still_of_table, ended_half}
use Rattle.afdx_session.proofs.Numbered.{set_same}
use Rattle.afdx_session.proofs.Shown.{half_ports}
use Rattle.afdx_session.proofs.Ending.{EndsUpTo, ends_none, lane_stands, ends_more, ends_over, ends_half, ends_half_more, ends_all, TakenAreTheCapture, end_fault}

-- the captures before a place have ended
pub record Closes {Z : Type 0} (start : Machine Z) (now : List (Lane Z)) (n : ℕ) : Type 0 where
  pub ends : EndsUpTo n start.lanes.items now
  pub going : IsGoing start.switch.run.table now start.switch start.counts

pub closes_none : {Z : Type 0} (start : Machine Z) → IsGoing start.switch.run.table start.lanes.items start.switch start.counts → Closes start start.lanes.items 0
closes_none start going = record { ends = ends_none start.lanes.items; going = going }

-- no fault was met so far
pub no_fault : {Z : Type 0} (lanes : List (Lane Z)) (streams : List Stream) (k : ℕ) (l : Lane Z) → AreLanesOf lanes streams → slice_get lanes k ≡ Some l → l.reader.fault ≡ None
no_fault [] streams k l are at = absurd cc
no_fault (m ∷ lanes) [] k l are at = absurd are
no_fault {Z = Z} (m ∷ lanes) (s ∷ streams) zero l are at = subst (λ (x : Lane Z). x.reader.fault ≡ None) (same_Some m l at) are.0.read.no_fault
no_fault (m ∷ lanes) (s ∷ streams) (suc k) l are at = no_fault lanes streams k l are.1 at

-- the next lane's marks are those of its reader
marks_of : {Z : Type 0} (begun : Bool) (lanes : List (Lane Z)) → AllByRecursion (IsMarked begun) lanes → AllByRecursion (λ (l : Lane Z). l.closed ≡ l.reader.closed) lanes
marks_of begun [] marked = tt
marks_of begun (l ∷ lanes) marked = (marked.0.closed, marks_of begun lanes marked.1)

pub ended_as_marked : {Z : Type 0} (begun : Bool) (start : Machine Z) (now : List (Lane Z)) (n : ℕ) (l : Lane Z) → AllByRecursion (IsMarked begun) start.lanes.items → Closes start now n
    → slice_get now n ≡ Some l → l.closed ≡ l.reader.closed
ended_as_marked {Z = Z} begun start now n l marked closes at =
    lane_stands (λ (x : Lane Z). x.closed ≡ x.reader.closed) n start.lanes.items now l closes.ends at (marks_of begun start.lanes.items marked)

-- it was read up before
read_before : {Z : Type 0} (begun : Bool) (start : Machine Z) (now : List (Lane Z)) (n : ℕ) (l : Lane Z) → IsReady start begun → Closes start now n → slice_get now n ≡ Some l → HasReadAll l
read_before begun start now n l ready closes at = lane_stands HasReadAll n start.lanes.items now l closes.ends at ready.read

-- a capture that had ended before
pub closes_over : {Z : Type 0} (begun : Bool) (start : Machine Z) (now : List (Lane Z)) (n : ℕ) (l : Lane Z) → IsReady start begun → slice_get now n ≡ Some l → l.closed ≡ true → Closes start now n
    → Closes start (set now n l) (n + 1)
closes_over {Z = Z} begun start now n l ready at closed was = subst (λ (ls : List (Lane Z)). Closes start ls (n + 1)) (sym (set_same now n l at)) (record {
  ends = ends_over n start.lanes.items now l at (sym (ended_as_marked begun start now n l ready.marked was at) ∙ closed) (read_before begun start now n l ready was at) was.ends;
  going = was.going;
})

of_now : {Z : Type 0} (start : Machine Z) (now : List (Lane Z)) (n : ℕ) → AreOfTable start.switch.run.table start.lanes.items → Closes start now n → AreOfTable start.switch.run.table now
of_now start now n of was =
    still_of_table start.switch.run.table start.lanes.items now (half_ports start.lanes.items now (ends_half n start.lanes.items now was.ends)) of

-- one that ends now
pub closes_one : {Z : Type 0} → ByStampIsOrdered → MergedIsAMerge → MergedIsByStampAndPort → (begun : Bool) (start : Machine Z) (now : List (Lane Z)) (n : ℕ) (old new : Lane Z) (more : List Record)
    → AreOfTable start.switch.run.table start.lanes.items
    → IsReady start begun → slice_get now n ≡ Some old → old.closed ≡ false → IsStill old new → new.undone ≡ old.undone → new.reader.bytes ≡ old.reader.bytes → new.reader.closed ≡ true
    → Adds old new more → HasReadAll new
    → Closes start now n → Closes start (set now n new) (n + 1)
closes_one ordered merge sorted begun start now n old new more of ready at still_open still undone bytes closed adds all was = record {
  ends = ends_more n start.lanes.items now old new at (record { half = ended_half old new still undone bytes; bytes = bytes; closed = closed; read = all }) was.ends;
  going = reads_on ordered merge sorted start.switch.run.table now start.switch start.counts n old new more (of_now start now n of was) at
      ((read_before begun start now n old ready was at).ended ∙ sym (ended_as_marked begun start now n old ready.marked was at) ∙ still_open) still.port (ap (λ o. o.items) still.out) still.taken adds
      was.going;
}

-- one that has a fault: nothing that contracts see is another, and the fault is the first
pub closes_half : {Z : Type 0} (start : Machine Z) (now : List (Lane Z)) (n : ℕ) (old new : Lane Z) → slice_get now n ≡ Some old → IsStill old new → new.undone ≡ old.undone → new.reader.bytes
    ≡ old.reader.bytes → Closes start now n → AreHalfDone start.lanes.items (set now n new)
closes_half start now n old new at still undone bytes was = ends_half_more n start.lanes.items now old new was.ends at (ended_half old new still undone bytes)

pub closes_fault : {Z : Type 0} → TakenAreTheCapture → (begun : Bool) (start : Machine Z) (now : List (Lane Z)) (n : ℕ) (old : Lane Z) (fault : RunFault)
    → AllByRecursion (IsMarked begun) start.lanes.items → slice_get now n ≡ Some old → IsFaultAt old.reader.bytes old.port fault → Closes start now n
    → IsReadFault (texts_at start.lanes.items) fault
closes_fault law begun start now n old fault marked at is was = end_fault law begun n start.lanes.items now was.going.streams old fault was.ends marked was.going.lanes_are at is

pub closes_all : {Z : Type 0} (start : Machine Z) (now : List (Lane Z)) (n : ℕ) → length now ≤ n → Closes start now n → AreEndedLanes start.lanes.items now
closes_all start now n le was = ends_all n start.lanes.items now le was.ends
