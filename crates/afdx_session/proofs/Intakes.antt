-- What contracts see of lanes, in the course of a call and at its end.
use Rattle.std.proofs.Common.{◌≡◌, ℕ, zero, suc, ◌-◌, ◌<◌, ◌≤◌, Bool, true, List, [], ◌∷◌, ◌++◌, map, length, take, drop, set, slice_get, Some, refl, ap, sym, ◌∙◌, arith, append_assoc, subst}
use Rattle.std.specs.List.{AllByRecursion}
use Rattle.std.proofs.lemmas.List.{append-nil}
use Rattle.std.proofs.lemmas.Option.{same_Some}
use Rattle.std.proofs.Math.Seq.{take-length}
use Rattle.afdx_pcap.specs.Reading.{Reading, HasTaken}
use Rattle.afdx_table.specs.Content.{Content}
use Rattle.afdx_core.specs.State.{State}
use Rattle.afdx_core.specs.Merge.{merged}
use Rattle.afdx_count.specs.Tally.{Tally}
use Rattle.afdx_session.specs.declared.lane.Lane.{Lane}
use Rattle.afdx_session.specs.Session.{Intake, fed, closed_intake}
use Rattle.afdx_session.specs.Inner.Settled.{IsSettling}
use Rattle.afdx_session.specs.Streams.{Stream}
use Rattle.afdx_session.specs.Inner.Lanes.{intake_of, waiting_of, IsStill}
use Rattle.afdx_session.specs.Inner.Kept.{IsLaneOf, AreLanesOf, AreOfTable, text_up_to, IsRunning, IsTouched, AreTouched, AreGrown, IsAlike, AreAlike, IsMarked}
use Rattle.afdx_session.specs.Inner.Sources.{HasSameBytes, HaveSameBytes}
use Rattle.afdx_session.specs.Inner.View.{IsHalfDone, AreHalfDone, IsSettledLane, AreSettledLanes, intakes_of}
use Rattle.std.proofs.lemmas.List.{map-set}
use Rattle.afdx_session.proofs.Gone.{touched_none, touched_both}

-- ---- lanes that were touched

pub all_touched_none : {Z : Type 0} (lanes : List (Lane Z)) → AreTouched lanes lanes
all_touched_none [] = tt
all_touched_none (l ∷ lanes) = (touched_none l, all_touched_none lanes)

pub all_touched_both : {Z : Type 0} (a b c : List (Lane Z)) → AreTouched a b → AreTouched b c → AreTouched a c
all_touched_both [] [] c one two = two
all_touched_both [] (m ∷ b) c one two = absurd one
all_touched_both (l ∷ a) [] c one two = absurd one
all_touched_both (l ∷ a) (m ∷ b) [] one two = absurd two
all_touched_both (l ∷ a) (m ∷ b) (n ∷ c) one two = (touched_both l m n one.0 two.0, all_touched_both a b c one.1 two.1)

pub touched_at : {Z : Type 0} (lanes : List (Lane Z)) (k : ℕ) (old new : Lane Z) → slice_get lanes k ≡ Some old → IsTouched old new → AreTouched lanes (set lanes k new)
touched_at [] k old new at touched = absurd cc
touched_at {Z = Z} (l ∷ lanes) zero old new at touched = (subst (λ (x : Lane Z). IsTouched x new) (sym (same_Some l old at)) touched, all_touched_none lanes)
touched_at (l ∷ lanes) (suc k) old new at touched = (touched_none l, touched_at lanes k old new at touched)

pub touched_of : {Z : Type 0} (old new : List (Lane Z)) → AreGrown old new → AreTouched old new
touched_of [] [] grown = tt
touched_of [] (n ∷ new) grown = absurd grown
touched_of (l ∷ old) [] grown = absurd grown
touched_of (l ∷ old) (n ∷ new) grown = (grown.0.touched, touched_of old new grown.1)

pub touched_ports : {Z : Type 0} (old new : List (Lane Z)) → AreTouched old new → map (λ (l : Lane Z). l.port) new ≡ map (λ (l : Lane Z). l.port) old
touched_ports [] [] touched = refl
touched_ports [] (n ∷ new) touched = absurd touched
touched_ports (l ∷ old) [] touched = absurd touched
touched_ports {Z = Z} (l ∷ old) (n ∷ new) touched = ap (λ m. m ∷ map (λ (x : Lane Z). x.port) new) touched.0.port ∙ ap (λ ms. l.port ∷ ms) (touched_ports old new touched.1)

pub still_of_table : {Z : Type 0} (t : Content) (old new : List (Lane Z)) → map (λ (l : Lane Z). l.port) new ≡ map (λ (l : Lane Z). l.port) old → AreOfTable t old → AreOfTable t new
still_of_table t old new ports of = record { formed = of.formed; ports = ports ∙ of.ports }

-- ---- half done

-- an intake from its parts
made : ℕ → List ℕ → Bool → ℕ → Intake
made port bytes closed taken = record { port = port; bytes = bytes; closed = closed; taken = taken }

abbrev prefix_bytes : Reading → ℕ → List ℕ
prefix_bytes r undone = take (length r.bytes - undone) r.bytes

same_intake : {Z : Type 0} (a b : Lane Z) → b.port ≡ a.port → prefix_bytes b.reader b.undone ≡ prefix_bytes a.reader a.undone → b.closed ≡ a.closed → b.taken ≡ a.taken → intake_of b ≡ intake_of a
unfolding made
same_intake a b port bytes closed taken = rw (port, bytes, closed, taken) refl

pub half_of : {Z : Type 0} (a b : Lane Z) → IsTouched a b → IsHalfDone a b
half_of a b touched = record {
  intake = same_intake a b touched.port (ap (λ r. prefix_bytes r b.undone) touched.reader ∙ ap (prefix_bytes a.reader) touched.undone) touched.closed touched.taken;
  ready = touched.ready;
  more = touched.more;
  out = touched.out;
}

pub half_both : {Z : Type 0} (a b c : Lane Z) → IsHalfDone a b → IsHalfDone b c → IsHalfDone a c
half_both a b c one two = record {
  intake = two.intake ∙ one.intake;
  ready = two.ready ∙ one.ready;
  more = one.more ++ two.more;
  out = two.out ∙ ap (λ xs. xs ++ two.more) one.out ∙ append_assoc a.out.items one.more two.more;
}

pub half_none : {Z : Type 0} (l : Lane Z) → IsHalfDone l l
half_none l = record { intake = refl; ready = refl; more = []; out = sym (append-nil l.out.items) }

pub all_half_none : {Z : Type 0} (lanes : List (Lane Z)) → AreHalfDone lanes lanes
all_half_none [] = tt
all_half_none (l ∷ lanes) = (half_none l, all_half_none lanes)

pub half_at : {Z : Type 0} (lanes : List (Lane Z)) (k : ℕ) (old new : Lane Z) → slice_get lanes k ≡ Some old → IsHalfDone old new → AreHalfDone lanes (set lanes k new)
half_at [] k old new at half = absurd cc
half_at {Z = Z} (l ∷ lanes) zero old new at half = (subst (λ (x : Lane Z). IsHalfDone x new) (sym (same_Some l old at)) half, all_half_none lanes)
half_at (l ∷ lanes) (suc k) old new at half = (half_none l, half_at lanes k old new at half)

pub half_touched : {Z : Type 0} (a b c : List (Lane Z)) → AreHalfDone a b → AreTouched b c → AreHalfDone a c
half_touched [] [] c half touched = c_empty c touched where
  c_empty : {Z : Type 0} (c : List (Lane Z)) → AreTouched [] c → AreHalfDone [] c
  c_empty [] t = tt
  c_empty (n ∷ c) t = absurd t
half_touched [] (m ∷ b) c half touched = absurd half
half_touched (l ∷ a) [] c half touched = absurd half
half_touched (l ∷ a) (m ∷ b) [] half touched = absurd touched
half_touched (l ∷ a) (m ∷ b) (n ∷ c) half touched = (half_both l m n half.0 (half_of m n touched.0), half_touched a b c half.1 touched.1)

-- a lane that took a piece, as long as the call has not answered Ok
pub still_half : {Z : Type 0} (a b : Lane Z) → IsStill a b → prefix_bytes b.reader b.undone ≡ prefix_bytes a.reader a.undone → IsHalfDone a b
still_half a b still bytes = record {
  intake = same_intake a b still.port bytes still.closed still.taken;
  ready = still.ready;
  more = [];
  out = ap (λ o. o.items) still.out ∙ sym (append-nil a.out.items);
}

all_bytes : (bytes : List ℕ) (n : ℕ) → n ≡ 0 → take (length bytes - n) bytes ≡ bytes
all_bytes bytes n none = ap (λ m. take m bytes) (all_of (length bytes) n none) ∙ take-length bytes where
  all_of : (m k : ℕ) → k ≡ 0 → m - k ≡ m
  all_of m k is = omega (arith, is)

-- the prefix is what there was before the piece
pub fed_half : {Z : Type 0} (a b : Lane Z) → IsStill a b → a.undone ≡ 0 → take (length b.reader.bytes - b.undone) b.reader.bytes ≡ a.reader.bytes → IsHalfDone a b
fed_half a b still none bytes = still_half a b still (bytes ∙ sym (all_bytes a.reader.bytes a.undone none))

pub ended_half : {Z : Type 0} (a b : Lane Z) → IsStill a b → b.undone ≡ a.undone → b.reader.bytes ≡ a.reader.bytes → IsHalfDone a b
ended_half a b still undone bytes = still_half a b still (ap (λ xs. take (length xs - b.undone) xs) bytes ∙ ap (λ n. take (length a.reader.bytes - n) a.reader.bytes) undone)

-- ---- all that was read counts

-- a lane as its reader has it
pub read_intake : {Z : Type 0} → Lane Z → Intake
read_intake l = record { port = l.port; bytes = l.reader.bytes; closed = l.reader.closed; taken = l.taken }

marked_intake : {Z : Type 0} (begun : Bool) (l : Lane Z) → IsMarked begun l → intake_of l ≡ read_intake l
unfolding read_intake
marked_intake begun l marked = rw (all_bytes l.reader.bytes l.undone marked.undone, marked.closed) refl

pub marked_intakes : {Z : Type 0} (begun : Bool) (lanes : List (Lane Z)) → AllByRecursion (IsMarked begun) lanes → intakes_of lanes ≡ map read_intake lanes
marked_intakes begun [] marked = refl
marked_intakes begun (l ∷ lanes) marked = ap (λ i. i ∷ intakes_of lanes) (marked_intake begun l marked.0) ∙ ap (λ is. read_intake l ∷ is) (marked_intakes begun lanes marked.1)

read_same : {Z : Type 0} (a b : Lane Z) → b.port ≡ a.port → b.reader ≡ a.reader → b.taken ≡ a.taken → read_intake b ≡ read_intake a
unfolding read_intake
read_same a b port reader taken = rw (port, reader, taken) refl

pub touched_read : {Z : Type 0} (a b : List (Lane Z)) → AreTouched a b → map read_intake b ≡ map read_intake a
touched_read [] [] touched = refl
touched_read [] (m ∷ b) touched = absurd touched
touched_read (l ∷ a) [] touched = absurd touched
touched_read (l ∷ a) (m ∷ b) touched = ap (λ i. i ∷ map read_intake b) (read_same l m touched.0.port touched.0.reader touched.0.taken) ∙ ap (λ is. read_intake l ∷ is) (touched_read a b touched.1)

pub settled_read : {Z : Type 0} (a b : List (Lane Z)) → AreSettledLanes a b → map read_intake b ≡ map read_intake a
settled_read [] [] settled = refl
settled_read [] (m ∷ b) settled = absurd settled
settled_read (l ∷ a) [] settled = absurd settled
settled_read (l ∷ a) (m ∷ b) settled = ap (λ i. i ∷ map read_intake b) (read_same l m settled.0.port settled.0.reader settled.0.taken) ∙ ap (λ is. read_intake l ∷ is) (settled_read a b settled.1)

pub settled_marked : {Z : Type 0} (a b : List (Lane Z)) → AreSettledLanes a b → AllByRecursion (IsMarked true) b
settled_marked [] [] settled = tt
settled_marked [] (m ∷ b) settled = absurd settled
settled_marked (l ∷ a) [] settled = absurd settled
settled_marked (l ∷ a) (m ∷ b) settled = (
  record {
    undone = settled.0.undone;
    closed = settled.0.closed ∙ ap (λ r. r.closed) (sym settled.0.reader);
    ready = settled.0.ready ∙ ap (λ o. length o.items) (sym settled.0.out);
  },
  settled_marked a b settled.1,
)

-- so each intake but that of one place is as it was
pub intakes_after : {Z : Type 0} (begun : Bool) (lanes b c : List (Lane Z)) (k : ℕ) (new : Lane Z) → AllByRecursion (IsMarked begun) lanes → AreTouched (set lanes k new) b → AreSettledLanes b c
    → intakes_of c ≡ set (intakes_of lanes) k (read_intake new)
intakes_after begun lanes b c k new marked touched settled =
    marked_intakes true c (settled_marked b c settled)
    ∙ settled_read b c settled
    ∙ touched_read (set lanes k new) b touched
    ∙ map-set read_intake lanes k new
    ∙ ap (λ is. set is k (read_intake new)) (sym (marked_intakes begun lanes marked))

-- lanes that are alike have the same bytes
alike_intake : {Z : Type 0} (l n : Lane Z) → IsAlike l n → HasSameBytes (read_intake l) (read_intake n)
unfolding read_intake
alike_intake l n alike = record { port = alike.port; bytes = ap (λ r. r.bytes) alike.reader; closed = ap (λ r. r.closed) alike.reader }

alike_intakes : {Z : Type 0} (a b : List (Lane Z)) → AreAlike a b → HaveSameBytes (map read_intake a) (map read_intake b)
alike_intakes {Z} a b alike = (many a b alike, λ place i j at there. one a b place i j alike at there) where
  many : (a b : List (Lane Z)) → AreAlike a b → length (map read_intake b) ≡ length (map read_intake a)
  many [] [] alike = refl
  many [] (n ∷ b) alike = absurd alike
  many (l ∷ a) [] alike = absurd alike
  many (l ∷ a) (n ∷ b) alike = ap suc (many a b alike.1)

  one : (a b : List (Lane Z)) (place : ℕ) (i j : Intake) → AreAlike a b → slice_get (map read_intake a) place ≡ Some i → slice_get (map read_intake b) place ≡ Some j → HasSameBytes i j
  one [] b place i j alike at there = absurd cc
  one (l ∷ a) [] place i j alike at there = absurd alike
  one (l ∷ a) (n ∷ b) zero i j alike at there =
      subst (λ x. HasSameBytes x j) (same_Some (read_intake l) i at) (subst (HasSameBytes (read_intake l)) (same_Some (read_intake n) j there) (alike_intake l n alike.0))
  one (l ∷ a) (n ∷ b) (suc place) i j alike at there = one a b place i j alike.1 at there

-- so each intake but that of one place is as it was, but for what was taken
pub bytes_after : {Z : Type 0} (begun : Bool) (lanes b c : List (Lane Z)) (k : ℕ) (new : Lane Z) → AllByRecursion (IsMarked begun) lanes → AreAlike (set lanes k new) b → AreSettledLanes b c
    → HaveSameBytes (set (intakes_of lanes) k (read_intake new)) (intakes_of c)
bytes_after begun lanes b c k new marked alike settled =
    subst (HaveSameBytes (set (intakes_of lanes) k (read_intake new))) (sym (marked_intakes true c (settled_marked b c settled) ∙ settled_read b c settled))
    (subst (λ is. HaveSameBytes is (map read_intake b)) (map-set read_intake lanes k new ∙ ap (λ is. set is k (read_intake new)) (sym (marked_intakes begun lanes marked)))
    (alike_intakes (set lanes k new) b alike))

pub fed_intake : {Z : Type 0} (begun : Bool) (old new : Lane Z) (piece : List ℕ) → IsMarked begun old → new.port ≡ old.port → new.reader.bytes ≡ old.reader.bytes ++ piece → new.reader.closed
    ≡ old.closed → new.taken ≡ old.taken → read_intake new ≡ fed piece (intake_of old)
unfolding read_intake
fed_intake begun old new piece marked port bytes closed taken = rw (port, bytes, closed, taken, all_bytes old.reader.bytes old.undone marked.undone) refl

pub ended_intake : {Z : Type 0} (begun : Bool) (old new : Lane Z) → IsMarked begun old → new.port ≡ old.port → new.reader.bytes ≡ old.reader.bytes → new.reader.closed ≡ true → new.taken ≡ old.taken
    → read_intake new ≡ closed_intake (intake_of old)
unfolding read_intake
ended_intake begun old new marked port bytes closed taken = rw (port, bytes, closed, taken, all_bytes old.reader.bytes old.undone marked.undone) refl

pub marked_bytes : {Z : Type 0} (begun : Bool) (l : Lane Z) → IsMarked begun l → (intake_of l).bytes ≡ l.reader.bytes
marked_bytes begun l marked = all_bytes l.reader.bytes l.undone marked.undone

-- ---- what runs, runs on

settled_waiting : {Z : Type 0} (a b : List (Lane Z)) → AreSettledLanes a b → map waiting_of b ≡ map waiting_of a
settled_waiting [] [] settled = refl
settled_waiting [] (m ∷ b) settled = absurd settled
settled_waiting (l ∷ a) [] settled = absurd settled
settled_waiting (l ∷ a) (m ∷ b) settled =
    ap (λ w. record { port = m.port; records = w.items } ∷ map waiting_of b) settled.0.waiting
    ∙ ap (λ n. record { port = n; records = l.waiting.items } ∷ map waiting_of b) settled.0.port
    ∙ ap (λ ws. waiting_of l ∷ ws) (settled_waiting a b settled.1)

settled_lanes : {Z : Type 0} (a b : List (Lane Z)) (streams : List Stream) → AreSettledLanes a b → AreLanesOf a streams → AreLanesOf b streams
settled_lanes [] [] streams settled are = are
settled_lanes [] (m ∷ b) streams settled are = absurd settled
settled_lanes (l ∷ a) [] streams settled are = absurd settled
settled_lanes (l ∷ a) (m ∷ b) [] settled are = absurd are
settled_lanes (l ∷ a) (m ∷ b) (s ∷ streams) settled are = (lane settled.0 are.0, settled_lanes a b streams settled.1 are.1) where
  lane : IsSettledLane l m → IsLaneOf l s → IsLaneOf m s
  lane g is = record {
    port = is.port ∙ sym g.port;
    ended = is.ended ∙ sym g.ended;
    read = record {
      no_fault = ap (λ r. r.fault) g.reader ∙ is.read.no_fault;
      taken = subst (λ r. HasTaken (record { bytes = r.bytes; given = r.given }) s.records) (sym g.reader) is.read.taken;
      last = g.last ∙ is.read.last;
    };
  }

pub settled_at : {Z : Type 0} (a b : List (Lane Z)) (k : ℕ) (m : Lane Z) → AreSettledLanes a b → slice_get b k ≡ Some m → (l : Lane Z) × (slice_get a k ≡ Some l) × IsSettledLane l m
settled_at [] [] k m settled at = absurd cc
settled_at [] (n ∷ b) k m settled at = absurd settled
settled_at (l ∷ a) [] k m settled at = absurd settled
settled_at {Z = Z} (l ∷ a) (n ∷ b) zero m settled at = (l, refl, subst (λ (x : Lane Z). IsSettledLane l x) (same_Some n m at) settled.0)
settled_at (l ∷ a) (n ∷ b) (suc k) m settled at = settled_at a b k m settled.1 at

settled_length : {Z : Type 0} (a b : List (Lane Z)) → AreSettledLanes a b → length b ≡ length a
settled_length [] [] settled = refl
settled_length [] (n ∷ b) settled = absurd settled
settled_length (l ∷ a) [] settled = absurd settled
settled_length (l ∷ a) (n ∷ b) settled = ap suc (settled_length a b settled.1)

pub running_settled : {Z : Type 0} (t : Content) (a b : List (Lane Z)) (s : State) (counts : Tally) → AreSettledLanes a b → IsRunning t a s counts → IsRunning t b s counts
running_settled t a b s counts settled run = record {
  going = record {
    streams = run.going.streams;
    given = run.going.given;
    since = run.going.since;
    lanes_are = settled_lanes a b run.going.streams settled run.going.lanes_are;
    settling = subst (IsSettling run.going.streams run.going.given) (sym (settled_waiting a b settled)) run.going.settling;
    is_given = run.going.is_given;
    come = run.going.come;
    later = subst (λ ws. AllByRecursion (λ x. s.run.latest ≤ x.frame.stamp) (merged ws)) (sym (settled_waiting a b settled)) run.going.later;
    until = run.going.until;
    counts_are = run.going.counts_are;
    few = run.going.few;
    outs = λ place p m in_all is_port is_lane.
        let l = settled_at a b place m settled is_lane in
        let was = run.going.outs place p l.0 tt is_port l.1 in
        record {
          count = was.count;
          taken = subst (λ n. n ≤ length (text_up_to t run.going.given run.going.since p)) (sym l.2.taken) was.taken;
          left = ap (λ o. o.items) l.2.out ∙ was.left ∙ ap (λ n. drop n (text_up_to t run.going.given run.going.since p)) (sym l.2.taken);
        };
  };
  out = λ some. run.out (subst (λ n. 0 < n) (settled_length a b settled) some);
}

-- of the same arrivals, up to the same instant
pub settled_with : {Z : Type 0} (t : Content) (a b : List (Lane Z)) (s : State) (counts : Tally) → AreSettledLanes a b → (was : IsRunning t a s counts)
    → (run : IsRunning t b s counts) × (run.going.given ≡ was.going.given) × (run.going.since ≡ was.going.since)
unfolding running_settled
settled_with t a b s counts settled was = (running_settled t a b s counts settled was, refl, refl)
