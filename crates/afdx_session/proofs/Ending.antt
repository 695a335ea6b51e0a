-- All captures end, and all goes out: that is the run over the whole captures.
use Rattle.std.proofs.Common.{◌≡◌, ℕ, zero, suc, ◌+◌, ◌<◌, ◌≤◌, Bool, true, List, [], ◌∷◌, ◌++◌, map, length, drop, set, slice_get, Some, refl, ap, sym, ◌∙◌, arith, inl, inr, subst}
use Rattle.std.specs.List.{AllByRecursion}
use Rattle.std.proofs.lemmas.List.{append-nil}
use Rattle.std.proofs.lemmas.Option.{same_Some}
use Rattle.std.proofs.Math.Numerals.{suc-eq-add-one}
use Rattle.afdx_units.specs.Time.{last_instant}
use Rattle.afdx_pcap.specs.declared.fault.PcapFault.{PcapFault}
use Rattle.afdx_pcap.specs.Record.{Record}
use Rattle.afdx_pcap.specs.Capture.{IsCapture}
use Rattle.afdx_pcap.specs.Text.{capture_text}
use Rattle.afdx_pcap.specs.Fault.{IsFault}
use Rattle.afdx_pcap.specs.Reading.{Taking, HasTaken, IsSound}
use Rattle.afdx_table.specs.declared.rows.PortRow.{PortRow}
use Rattle.afdx_table.specs.Content.{Content}
use Rattle.afdx_port.specs.Inner.Admission.{EarlierEventsStayAdmitted}
use Rattle.afdx_port.specs.Inner.Order.{ReachesInOrder}
use Rattle.afdx_core.specs.State.{State}
use Rattle.afdx_core.specs.Merge.{Arrival, merged}
use Rattle.afdx_core.specs.Inner.Merge.{ByStampIsOrdered}
use Rattle.afdx_count.specs.Tally.{Tally}
use Rattle.afdx_session.specs.declared.lane.Lane.{Lane}
use Rattle.afdx_session.specs.declared.plan.RunFault.{RunFault}
use Rattle.afdx_session.specs.declared.plan.RunFault.TheVariants as run
use Rattle.afdx_session.specs.Reading.{AreCaptures, IsFirstFault, IsFaultAt, IsReadFault}
use Rattle.afdx_session.specs.Output.{output_text}
use Rattle.afdx_session.specs.Streams.{Stream, captures_of, whole_of, merged_so_far, frontier, text_so_far, AllStartBeforeTheLastInstant}
use Rattle.afdx_session.specs.Session.{Intake}
use Rattle.afdx_session.specs.Inner.Lanes.{waiting_of, HasReadAll}
use Rattle.afdx_session.specs.Inner.Kept.{IsLaneOf, AreLanesOf, AreOfTable, come_to, IsGoing, IsRunning, AreTouched, IsMarked}
use Rattle.afdx_session.specs.Inner.View.{IsHalfDone, AreHalfDone, IsEndedLane, AreEndedLanes, texts_at}
use Rattle.afdx_session.proofs.Numbered.{set_same}
use Rattle.afdx_session.proofs.Going.{Early, lanes_early}
use Rattle.afdx_session.proofs.Growing.{no_frontier, output_of_all, AllEnded}
use Rattle.afdx_session.proofs.Settling.{all_back}
use Rattle.afdx_session.proofs.ReadUp.{read_same}
use Rattle.afdx_session.proofs.Gone.{text_is, none_late}
use Rattle.afdx_session.proofs.Intakes.{half_of, half_both, half_none, marked_bytes}

-- ---- one after the other

-- the captures before a place have ended; the others are as they were
abbrev pub EndsUpTo : {Z : Type 0} → ℕ → List (Lane Z) → List (Lane Z) → Type 0
EndsUpTo n [] [] = Unit {0}
EndsUpTo n [] (m ∷ new) = ⊥
EndsUpTo n (l ∷ old) [] = ⊥
EndsUpTo zero (l ∷ old) (m ∷ new) = (m ≡ l) × EndsUpTo zero old new
EndsUpTo (suc n) (l ∷ old) (m ∷ new) = IsEndedLane l m × EndsUpTo n old new

pub ends_none : {Z : Type 0} (lanes : List (Lane Z)) → EndsUpTo 0 lanes lanes
ends_none [] = tt
ends_none (l ∷ lanes) = (refl, ends_none lanes)

-- the lane at the place is as it was
pub lane_stands : {Z : Type 0} (P : Lane Z → Type 0) (n : ℕ) (old new : List (Lane Z)) (l : Lane Z) → EndsUpTo n old new → slice_get new n ≡ Some l → AllByRecursion P old → P l
lane_stands P n [] [] l ends at all = absurd cc
lane_stands P n [] (m ∷ new) l ends at all = absurd ends
lane_stands P n (k ∷ old) [] l ends at all = absurd ends
lane_stands P zero (k ∷ old) (m ∷ new) l ends at all = subst P (sym ends.0 ∙ same_Some m l at) all.0
lane_stands P (suc n) (k ∷ old) (m ∷ new) l ends at all = lane_stands P n old new l ends.1 at all.1

ends_suc : {Z : Type 0} (n : ℕ) (old new : List (Lane Z)) (l m : Lane Z) → slice_get new n ≡ Some l → IsEndedLane l m → EndsUpTo n old new → EndsUpTo (suc n) old (set new n m)
ends_suc n [] [] l m at one ends = tt
ends_suc n [] (k ∷ new) l m at one ends = absurd ends
ends_suc n (k ∷ old) [] l m at one ends = absurd ends
ends_suc {Z = Z} zero (k ∷ old) (i ∷ new) l m at one ends = (subst (λ (x : Lane Z). IsEndedLane x m) (sym (same_Some i l at) ∙ ends.0) one, ends.1)
ends_suc (suc n) (k ∷ old) (i ∷ new) l m at one ends = (ends.0, ends_suc n old new l m at one ends.1)

pub ends_more : {Z : Type 0} (n : ℕ) (old new : List (Lane Z)) (l m : Lane Z) → slice_get new n ≡ Some l → IsEndedLane l m → EndsUpTo n old new → EndsUpTo (n + 1) old (set new n m)
ends_more n old new l m at one ends = subst (λ k. EndsUpTo k old (set new n m)) (suc-eq-add-one n) (ends_suc n old new l m at one ends)

-- one that had ended before
pub ends_over : {Z : Type 0} (n : ℕ) (old new : List (Lane Z)) (l : Lane Z) → slice_get new n ≡ Some l → l.reader.closed ≡ true → HasReadAll l → EndsUpTo n old new → EndsUpTo (n + 1) old new
ends_over n old new l at closed read ends =
    subst (λ ls. EndsUpTo (n + 1) old ls) (set_same new n l at) (ends_more n old new l l at (record { half = half_none l; bytes = refl; closed = closed; read = read }) ends)

pub ends_half : {Z : Type 0} (n : ℕ) (old new : List (Lane Z)) → EndsUpTo n old new → AreHalfDone old new
ends_half n [] [] ends = tt
ends_half n [] (m ∷ new) ends = absurd ends
ends_half n (l ∷ old) [] ends = absurd ends
ends_half {Z = Z} zero (l ∷ old) (m ∷ new) ends = (subst (λ (x : Lane Z). IsHalfDone l x) (sym ends.0) (half_none l), ends_half zero old new ends.1)
ends_half (suc n) (l ∷ old) (m ∷ new) ends = (ends.0.half, ends_half n old new ends.1)

half_set : {Z : Type 0} (a b : List (Lane Z)) (n : ℕ) (l m : Lane Z) → AreHalfDone a b → slice_get b n ≡ Some l → IsHalfDone l m → AreHalfDone a (set b n m)
half_set [] [] n l m half at one = tt
half_set [] (k ∷ b) n l m half at one = absurd half
half_set (k ∷ a) [] n l m half at one = absurd half
half_set {Z = Z} (k ∷ a) (i ∷ b) zero l m half at one = (half_both k i m half.0 (subst (λ (x : Lane Z). IsHalfDone x m) (sym (same_Some i l at)) one), half.1)
half_set (k ∷ a) (i ∷ b) (suc n) l m half at one = (half.0, half_set a b n l m half.1 at one)

-- also where the next one has a fault
pub ends_half_more : {Z : Type 0} (n : ℕ) (old new : List (Lane Z)) (l m : Lane Z) → EndsUpTo n old new → slice_get new n ≡ Some l → IsHalfDone l m → AreHalfDone old (set new n m)
ends_half_more n old new l m ends at one = half_set old new n l m (ends_half n old new ends) at one

pub ends_all : {Z : Type 0} (n : ℕ) (old new : List (Lane Z)) → length new ≤ n → EndsUpTo n old new → AreEndedLanes old new
ends_all n [] [] le ends = tt
ends_all n [] (m ∷ new) le ends = absurd ends
ends_all n (l ∷ old) [] le ends = absurd ends
ends_all zero (l ∷ old) (m ∷ new) le ends = absurd (omega (arith, le))
ends_all (suc n) (l ∷ old) (m ∷ new) le ends = (ends.0, ends_all n old new (omega (arith, le)) ends.1)

-- ---- the first fault

-- what the law of captures says of records that were taken
abbrev pub TakenAreTheCapture : Type 0
TakenAreTheCapture = (t : Taking) (rs : List Record) → HasTaken t rs → IsSound t.bytes t.given true → IsCapture t.bytes rs

pub lane_capture : {Z : Type 0} → TakenAreTheCapture → (l : Lane Z) (s : Stream) → IsLaneOf l s → HasReadAll l → l.reader.closed ≡ true → IsCapture l.reader.bytes s.records
lane_capture law l s is read closed =
    law (record { bytes = l.reader.bytes; given = l.reader.given }) s.records is.read.taken (subst (λ b. IsSound l.reader.bytes l.reader.given b) closed read.sound)

first_fault : {Z : Type 0} → TakenAreTheCapture → (begun : Bool) (n : ℕ) (old new : List (Lane Z)) (streams : List Stream) (l : Lane Z) (why : PcapFault) → EndsUpTo n old new
    → AllByRecursion (IsMarked begun) old → AreLanesOf new streams
    → slice_get new n ≡ Some l → IsFault l.reader.bytes why → IsFirstFault (texts_at old) l.port why
first_fault law begun n [] [] streams l why ends marked are at fault = absurd cc
first_fault law begun n [] (m ∷ new) streams l why ends marked are at fault = absurd ends
first_fault law begun n (k ∷ old) [] streams l why ends marked are at fault = absurd ends
first_fault law begun n (k ∷ old) (m ∷ new) [] l why ends marked are at fault = absurd are
first_fault {Z = Z} law begun zero (k ∷ old) (m ∷ new) (s ∷ streams) l why ends marked are at fault =
    let same : k ≡ l = sym ends.0 ∙ same_Some m l at in
    inl (
      ap (λ (x : Lane Z). x.port) same,
      subst (λ bytes. IsFault bytes why) (ap (λ (x : Lane Z). x.reader.bytes) (sym same) ∙ sym (marked_bytes begun k marked.0)) fault,
    )
first_fault law begun (suc n) (k ∷ old) (m ∷ new) (s ∷ streams) l why ends marked are at fault =
    inr (
      (s.records, subst (λ bytes. IsCapture bytes s.records) (ends.0.bytes ∙ sym (marked_bytes begun k marked.0)) (lane_capture law m s are.0 ends.0.read ends.0.closed)),
      first_fault law begun n old new streams l why ends.1 marked.1 are.1 at fault,
    )

pub end_fault : {Z : Type 0} → TakenAreTheCapture → (begun : Bool) (n : ℕ) (old new : List (Lane Z)) (streams : List Stream) (l : Lane Z) (fault : RunFault) → EndsUpTo n old new
    → AllByRecursion (IsMarked begun) old → AreLanesOf new streams
    → slice_get new n ≡ Some l → IsFaultAt l.reader.bytes l.port fault → IsReadFault (texts_at old) fault
end_fault law begun n old new streams l run.Memory ends marked are at fault = tt
end_fault law begun n old new streams l (run.Capture port why) ends marked are at fault =
    subst (λ p. IsFirstFault (texts_at old) p why) (sym fault.0) (first_fault law begun n old new streams l why ends marked are at fault.1)
end_fault law begun n old new streams l run.WrongPorts ends marked are at fault = fault
end_fault law begun n old new streams l run.Closed ends marked are at fault = fault
end_fault law begun n old new streams l run.Failed ends marked are at fault = fault

-- ---- all has gone out

pub all_ended_touched : {Z : Type 0} (old mid new : List (Lane Z)) → AreEndedLanes old mid → AreTouched mid new → AreEndedLanes old new
all_ended_touched [] [] [] ends touched = tt
all_ended_touched [] [] (n ∷ new) ends touched = absurd touched
all_ended_touched [] (m ∷ mid) new ends touched = absurd ends
all_ended_touched (l ∷ old) [] new ends touched = absurd ends
all_ended_touched (l ∷ old) (m ∷ mid) [] ends touched = absurd touched
all_ended_touched (l ∷ old) (m ∷ mid) (n ∷ new) ends touched = (
  record {
    half = half_both l m n ends.0.half (half_of m n touched.0);
    bytes = ap (λ r. r.bytes) touched.0.reader ∙ ends.0.bytes;
    closed = ap (λ r. r.closed) touched.0.reader ∙ ends.0.closed;
    read = read_same m n touched.0.reader touched.0.ended ends.0.read;
  },
  all_ended_touched old mid new ends.1 touched.1,
)

-- the streams are whole captures
streams_ended : {Z : Type 0} (old new : List (Lane Z)) (streams : List Stream) → AreEndedLanes old new → AreLanesOf new streams → AllEnded streams
streams_ended [] [] [] ends are = tt
streams_ended [] [] (s ∷ streams) ends are = absurd are
streams_ended [] (n ∷ new) streams ends are = absurd ends
streams_ended (l ∷ old) [] streams ends are = absurd ends
streams_ended (l ∷ old) (n ∷ new) [] ends are = absurd are
streams_ended (l ∷ old) (n ∷ new) (s ∷ streams) ends are = (are.0.ended ∙ ends.0.read.ended ∙ ends.0.closed, streams_ended old new streams ends.1 are.1)

pub are_captures : {Z : Type 0} → TakenAreTheCapture → (begun : Bool) (old new : List (Lane Z)) (streams : List Stream) → AllByRecursion (IsMarked begun) old → AreEndedLanes old new
    → AreLanesOf new streams → AreCaptures (texts_at old) (captures_of streams)
are_captures law begun [] [] [] marked ends are = tt
are_captures law begun [] [] (s ∷ streams) marked ends are = absurd are
are_captures law begun [] (n ∷ new) streams marked ends are = absurd ends
are_captures law begun (l ∷ old) [] streams marked ends are = absurd ends
are_captures law begun (l ∷ old) (n ∷ new) [] marked ends are = absurd are
are_captures law begun (l ∷ old) (n ∷ new) (s ∷ streams) marked ends are = (
  are.0.port ∙ ap (λ (i : Intake). i.port) ends.0.half.intake,
  subst (λ bytes. IsCapture bytes s.records) (ends.0.bytes ∙ sym (marked_bytes begun l marked.0)) (lane_capture law n s are.0 ends.0.read ends.0.closed),
  are_captures law begun old new streams marked.1 ends.1 are.1,
)

whole_same : (streams : List Stream) → AllEnded streams → streams ≡ map whole_of (captures_of streams)
whole_same [] all = refl
whole_same (s ∷ streams) all = ap (λ b. record { port = s.port; records = s.records; closed = b } ∷ streams) all.0
    ∙ ap (λ ss. record { port = s.port; records = s.records; closed = true } ∷ ss) (whole_same streams all.1)

-- what was put out is the output of a run over the whole captures
pub output_is : {Z : Type 0} → ByStampIsOrdered → EarlierEventsStayAdmitted → ReachesInOrder → AllStartBeforeTheLastInstant
    → (t : Content) (old new : List (Lane Z)) (s : State) (counts : Tally) (run : IsRunning t new s counts) (place : ℕ) (p : PortRow) (l : Lane Z) → AreOfTable t new
    → AreEndedLanes old new → slice_get t.ports place ≡ Some p → slice_get new place ≡ Some l → l.out.items ≡ drop l.taken (output_text t (merged (captures_of run.going.streams)) p)
output_is ordered stay reaches ends t old new s counts run place p l of ended is_port is_lane =
    let streams = run.going.streams in
    let whole = whole_same streams (streams_ended old new streams ended run.going.lanes_are) in
    (run.going.outs place p l tt is_port is_lane).left
    ∙ ap (drop l.taken) (sym (text_is ordered stay reaches ends t new s counts run place p l of is_port is_lane)
    ∙ ap (λ ss. text_so_far t ss p) whole
    ∙ ap capture_text (output_of_all t (captures_of streams) p))

-- nothing waits
given_some : {Z : Type 0} → ByStampIsOrdered → (t : Content) (old new : List (Lane Z)) (s : State) (counts : Tally) (run : IsRunning t new s counts) → AreEndedLanes old new → 0 < length new
    → merged (captures_of run.going.streams) ≡ run.going.given
given_some {Z} ordered t old new s counts run ended some =
    whole ∙ ap (λ xs. going.given ++ xs) none ∙ append-nil going.given where
      going : IsGoing t new s counts
      going = run.going

      waiting : List Arrival
      waiting = merged (map waiting_of new)

      whole : merged_so_far going.streams ≡ going.given ++ waiting
      whole = going.settling.whole

      at_frontier : come_to (frontier going.streams) ≡ last_instant
      at_frontier = ap come_to (no_frontier going.streams (streams_ended old new going.streams ended going.lanes_are))

      none : waiting ≡ []
      none = none_late waiting (subst (λ n. AllByRecursion (λ (a : Arrival). n ≤ a.frame.stamp) waiting)
          (let come = going.come in let until = going.until in let since = run.out some in omega (arith, come, until, since, at_frontier)) going.later)
          (all_back Early going.given waiting (subst (AllByRecursion Early) whole (lanes_early ordered new going.streams going.lanes_are)))

pub given_all : {Z : Type 0} → ByStampIsOrdered → (t : Content) (old new : List (Lane Z)) (s : State) (counts : Tally) (run : IsRunning t new s counts) → AreEndedLanes old new
    → merged (captures_of run.going.streams) ≡ run.going.given
given_all ordered t old [] s counts run ended = run.going.settling.whole ∙ append-nil run.going.given
given_all ordered t old (l ∷ new) s counts run ended = given_some ordered t old (l ∷ new) s counts run ended (omega arith)
