-- One lane reads on: its capture goes on, and the others stay.
use Rattle.std.proofs.Common.{◌≡◌, ℕ, zero, suc, true, false, List, [], ◌∷◌, ◌++◌, map, drop, set, slice_get, Some, refl, sym, ◌∙◌, subst}
use Rattle.std.proofs.lemmas.List.{append-nil}
use Rattle.std.proofs.lemmas.Option.{same_Some}
use Rattle.std.proofs.lemmas.Bool.{both_ways}
use Rattle.afdx_pcap.specs.Record.{Record}
use Rattle.afdx_pcap.specs.Reading.{AreFirst}
use Rattle.afdx_core.specs.Merge.{Rises, Arrival}
use Rattle.afdx_core.specs.Inner.Merge.{ByStampIsOrdered, MergedIsAMerge, MergedIsByStampAndPort}
use Rattle.afdx_session.specs.declared.lane.Lane.{Lane}
use Rattle.afdx_session.specs.Streams.{Stream, captures_of}
use Rattle.afdx_session.specs.Inner.Settled.{Ascend, ports_of, IsSettling, Waits, AllWait}
use Rattle.afdx_session.specs.Inner.Lanes.{waiting_of, Adds}
use Rattle.afdx_session.specs.Inner.Kept.{IsLaneOf, AreLanesOf}
use Rattle.afdx_session.proofs.Gathering.{splits_rise}
use Rattle.afdx_session.proofs.Settling.{settled_stays}

pub first_rises : (bytes : List ℕ) (rs : List Record) → AreFirst bytes rs → Rises rs
first_rises bytes [] first = tt
first_rises bytes (r ∷ rs) first = let held = first.1 in (splits_rise held.format 0 (drop 24 bytes) (r ∷ rs) first.0 held.records).1

-- the stream of a lane that read on
abbrev pub next_of : {Z : Type 0} → Stream → Lane Z → List Record → Stream
next_of s new more = record { port = s.port; records = s.records ++ more; closed = new.ended }

-- the streams, of which one goes on
abbrev pub streams_with : {Z : Type 0} → List Stream → ℕ → Lane Z → List Record → List Stream
streams_with [] k new more = []
streams_with (s ∷ streams) zero new more = next_of s new more ∷ streams
streams_with (s ∷ streams) (suc k) new more = s ∷ streams_with streams k new more

stays : {Z : Type 0} (l : Lane Z) (s : Stream) → IsLaneOf l s → Waits s s (waiting_of l) (waiting_of l)
stays l s is = record {
  on = record { port = refl; more = []; records = sym (append-nil s.records); in_order = first_rises l.reader.bytes s.records is.read.taken.first; ended = λ closed. (refl, closed) };
  port = sym is.port;
  queue = sym (append-nil l.waiting.items);
}

goes : {Z : Type 0} (old new : Lane Z) (s : Stream) (more : List Record) → IsLaneOf old s → old.ended ≡ false → new.port ≡ old.port → Adds old new more
    → Waits s (next_of s new more) (waiting_of old) (waiting_of new)
goes old new s more is still_open port adds = record {
  on = record {
    port = refl;
    more = more;
    records = refl;
    in_order = first_rises new.reader.bytes (s.records ++ more) (adds.read s.records is.read).taken.first;
    ended = λ (closed : s.closed ≡ true). absurd (both_ways s.closed (is.ended ∙ still_open) closed);
  };
  port = port ∙ sym is.port;
  queue = adds.queue;
}

all_stay : {Z : Type 0} (lanes : List (Lane Z)) (streams : List Stream) → AreLanesOf lanes streams → AllWait streams streams (map waiting_of lanes) (map waiting_of lanes)
all_stay [] [] are = tt
all_stay [] (s ∷ streams) are = absurd are
all_stay (l ∷ lanes) [] are = absurd are
all_stay (l ∷ lanes) (s ∷ streams) are = (stays l s are.0, all_stay lanes streams are.1)

pub one_reads : {Z : Type 0} (lanes : List (Lane Z)) (streams : List Stream) (k : ℕ) (old new : Lane Z) (more : List Record) → AreLanesOf lanes streams → slice_get lanes k ≡ Some old → old.ended
    ≡ false → new.port ≡ old.port → Adds old new more
    → AllWait streams (streams_with streams k new more) (map waiting_of lanes) (map waiting_of (set lanes k new))
one_reads [] [] k old new more are at still_open port adds = absurd cc
one_reads [] (s ∷ streams) k old new more are at still_open port adds = absurd are
one_reads (l ∷ lanes) [] k old new more are at still_open port adds = absurd are
one_reads {Z = Z} (l ∷ lanes) (s ∷ streams) zero old new more are at still_open port adds =
    let same : l ≡ old = same_Some l old at in (
      subst (λ (x : Lane Z). Waits s (next_of s new more) (waiting_of x) (waiting_of new)) (sym same)
          (goes old new s more (subst (λ (x : Lane Z). IsLaneOf x s) same are.0) still_open port adds),
      all_stay lanes streams are.1,
    )
one_reads (l ∷ lanes) (s ∷ streams) (suc k) old new more are at still_open port adds = (stays l s are.0, one_reads lanes streams k old new more are.1 at still_open port adds)

-- so what is settled stays, whatever a lane read
pub reads_settle : {Z : Type 0} → ByStampIsOrdered → MergedIsAMerge → MergedIsByStampAndPort
    → (lanes : List (Lane Z)) (streams : List Stream) (given : List Arrival) (k : ℕ) (old new : Lane Z) (more : List Record) → Ascend (ports_of (captures_of streams))
    → AreLanesOf lanes streams → slice_get lanes k ≡ Some old → old.ended ≡ false → new.port ≡ old.port → Adds old new more → IsSettling streams given (map waiting_of lanes)
    → IsSettling (streams_with streams k new more) given (map waiting_of (set lanes k new))
reads_settle ordered merge sorted lanes streams given k old new more ascend are at still_open port adds settling =
    settled_stays ordered merge sorted streams (streams_with streams k new more) given (map waiting_of lanes) (map waiting_of (set lanes k new)) ascend
    (one_reads lanes streams k old new more are at still_open port adds) settling
