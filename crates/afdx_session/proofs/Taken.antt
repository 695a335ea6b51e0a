-- What is taken of a lane's output.
use Rattle.std.proofs.Common.{◌≡◌, ℕ, zero, suc, ◌+◌, ◌<◌, ◌≤◌, ◌==◌, Bool, true, false, cond, List, [], ◌∷◌, map, length, take, drop, set, slice_get, Some, refl, ap, sym, ◌∙◌, arith, inl, inr, subst}
use Rattle.std.specs.Prelude.{Result, Ok, Err, OnOk, IfErr}
use Rattle.std.specs.declared.alloc.AllocError.{AllocError}
use Rattle.std.specs.List.{AllByRecursion}
use Rattle.std.proofs.lemmas.Bool.{cases_Bool}
use Rattle.std.proofs.lemmas.Bool.Decides.{nat_tests}
use Rattle.std.proofs.Math.ListN.{drop_of_length-le}
use Rattle.std.proofs.lemmas.Option.{same_Some}
use Rattle.afdx_table.specs.declared.rows.PortRow.{PortRow}
use Rattle.afdx_table.specs.Content.{Content}
use Rattle.afdx_pcap.specs.Reading.{HasTaken}
use Rattle.afdx_core.specs.State.{State}
use Rattle.afdx_core.specs.Merge.{Arrival, merged}
use Rattle.afdx_count.specs.Tally.{Tally}
use Rattle.afdx_session.specs.declared.lane.Lane.{Lane}
use Rattle.afdx_session.specs.declared.machine.Machine.{Machine}
use Rattle.afdx_session.specs.Streams.{Stream}
use Rattle.afdx_session.specs.Inner.Settled.{IsSettling}
use Rattle.afdx_session.specs.Session.{IsStream, AreStreams, took}
use Rattle.afdx_session.specs.Inner.Lanes.{intake_of, waiting_of, HasReadAll}
use Rattle.afdx_session.specs.Inner.Kept.{IsLaneOf, AreLanesOf, text_up_to, IsOut, IsGoing, IsRunning, IsMarked}
use Rattle.afdx_session.specs.Inner.View.{intakes_of, gone_out, IsShownAt, IsShown, IsKeptMachine, IsTaken}
use Rattle.afdx_session.proofs.Going.{get-set}
use Rattle.afdx_session.proofs.Numbered.{all_slice_get, set_same}
use Rattle.afdx_session.proofs.ReadUp.{read_same, all_set}
use Rattle.afdx_session.proofs.Shown.{length-drop-within}

length-take-within : (n : ℕ) (xs : List ℕ) → n ≤ length xs → length (take n xs) ≡ n
length-take-within zero xs le = refl
length-take-within (suc n) [] le = absurd (omega (arith, le))
length-take-within (suc n) (x ∷ xs) le = ap suc (length-take-within n xs (omega (arith, le)))

drop_all : (xs : List ℕ) (n : ℕ) → n ≡ length xs → [] ≡ drop n xs
drop_all xs n is = sym (drop_of_length-le xs (omega (arith, is)))

-- all of the text is taken
pub all_taken : {Z : Type 0} (text : List ℕ) (l : Lane Z) → IsShownAt text l → l.taken + l.ready ≡ length text
all_taken text l shown =
    let here = ap length shown.prefix in
    let long = length-take-within l.ready l.out.items shown.ready in
    let cut = length-drop-within l.taken text shown.taken in
    omega (arith, here, long, cut)

zero_is : (n : ℕ) → (n == 0) ≡ true → n ≡ 0
zero_is n is = grind (arith, nat_tests)

zero_not : (n : ℕ) → (n == 0) ≡ false → 0 < n
zero_not n is = grind (arith, nat_tests)

-- the lane that it was taken of
shown_taken : {Z : Type 0} (text : List ℕ) (old new : Lane Z) → IsTaken old new → IsShownAt text old → IsShownAt text new
shown_taken text old new taken shown =
    let all = all_taken text old shown in
    let n = taken.taken in
    let none = taken.ready in
    let bound = shown.bound in
    record {
      taken = omega (arith, all, n);
      prefix = ap (λ m. take m new.out.items) taken.ready ∙ drop_all text new.taken (n ∙ all);
      ready = omega (arith, none);
      bound = omega (arith, n, none, bound);
    }

-- what it has handed out stays
out_taken : {Z : Type 0} (begun : Bool) (t : Content) (given : List Arrival) (h : ℕ) (s : State) (p : PortRow) (place : ℕ) (old new : Lane Z) → IsTaken old new → IsMarked begun old
    → IsOut t given h s p place old → IsOut t given h s p place new
out_taken begun t given h s p place old new taken marked out = elim (cases_Bool (old.ready == 0)) [
  | inl none ↦
      let zero_ready = zero_is old.ready none in
      let same : new.taken ≡ old.taken = let n = taken.taken in omega (arith, n, zero_ready) in
      record {
        count = out.count;
        taken = subst (λ n. n ≤ length text) (sym same) out.taken;
        left = taken.left ∙ ap (λ b. cond b old.out.items []) none ∙ out.left ∙ ap (λ n. drop n text) (sym same);
      }
  | inr some ↦
      let all : new.taken ≡ length text =
      let n = taken.taken in
      let ready = some_ready begun refl (zero_not old.ready some) in
      let long = ap length out.left in
      let cut = length-drop-within old.taken text out.taken in
      omega (arith, n, ready, long, cut) in
      record {
        count = out.count;
        taken = omega (arith, all);
        left = taken.left ∙ ap (λ b. cond b old.out.items []) some ∙ drop_all text new.taken all;
      }
] where
  text : List ℕ
  text = text_up_to t given h p

  some_ready : (b : Bool) → begun ≡ b → 0 < old.ready → old.ready ≡ length old.out.items
  some_ready true is lt = marked.ready ∙ ap (λ b. cond b (length old.out.items) 0) is
  some_ready false is lt = let none = marked.ready ∙ ap (λ b. cond b (length old.out.items) 0) is in absurd (omega (arith, lt, none))

marked_taken : {Z : Type 0} (begun : Bool) (old new : Lane Z) → IsTaken old new → IsMarked begun old → IsMarked begun new
marked_taken begun old new taken marked = record {
  undone = taken.undone ∙ marked.undone;
  closed = taken.closed ∙ marked.closed ∙ ap (λ r. r.closed) (sym taken.reader);
  ready = taken.ready ∙ by begun (old.ready == 0) marked.ready refl taken.left;
} where
  by : (b none : Bool) → old.ready ≡ cond b (length old.out.items) 0 → (old.ready == 0) ≡ none → new.out.items ≡ cond (old.ready == 0) old.out.items [] → 0 ≡ cond b (length new.out.items) 0
  by false none ready is left = refl
  by true true ready is left = let z = zero_is old.ready is in let long = ap length (left ∙ ap (λ c. cond c old.out.items []) is) in omega (arith, ready, z, long)
  by true false ready is left = sym (ap length (left ∙ ap (λ c. cond c old.out.items []) is))

-- ---- the list of lanes

pub took_intake : {Z : Type 0} (old new : Lane Z) (n : ℕ) → IsTaken old new → new.taken ≡ n → intake_of new ≡ took n (intake_of old)
took_intake old new n taken is = rw (taken.port, taken.reader, taken.undone, taken.closed, is) refl

took_streams : {Z : Type 0} (lanes : List (Lane Z)) (k : ℕ) (old new : Lane Z) (streams : List Stream) → slice_get lanes k ≡ Some old → IsTaken old new → AreStreams (intakes_of lanes) streams
    → AreStreams (intakes_of (set lanes k new)) streams
took_streams [] k old new streams at taken are = absurd cc
took_streams (l ∷ lanes) k old new [] at taken are = absurd are
took_streams {Z = Z} (l ∷ lanes) zero old new (s ∷ streams) at taken are =
    let own : IsStream (intake_of old) s = subst (λ (x : Lane Z). IsStream (intake_of x) s) (same_Some l old at) are.0 in (
      subst (λ i. IsStream i s) (sym (took_intake old new new.taken taken refl)) (record { port = own.port; records = own.records; closed = own.closed }),
      are.1,
    )
took_streams (l ∷ lanes) (suc k) old new (s ∷ streams) at taken are = (are.0, took_streams lanes k old new streams at taken are.1)

shown_took : {Z : Type 0} (t : Content) (begun : Bool) (lanes : List (Lane Z)) (k : ℕ) (old new : Lane Z) → slice_get lanes k ≡ Some old → IsTaken old new → IsShown t begun lanes
    → IsShown t begun (set lanes k new)
shown_took {Z} t begun lanes k old new at taken shown = record {
  streams = shown.streams;
  are = took_streams lanes k old new shown.streams at taken shown.are;
  each = λ place p l is_port is_lane. elim (get-set lanes k place old new l at is_lane) [
    | inr other ↦ shown.each place p l is_port other
    | inl same ↦
        subst (λ (x : Lane Z). IsShownAt (gone_out t begun shown.streams p) x) (sym same.1)
        (shown_taken (gone_out t begun shown.streams p) old new taken (shown.each place p old is_port (ap (slice_get lanes) same.0 ∙ at)))
  ];
}

took_lanes : {Z : Type 0} (lanes : List (Lane Z)) (k : ℕ) (old new : Lane Z) (streams : List Stream) → slice_get lanes k ≡ Some old → IsTaken old new → AreLanesOf lanes streams
    → AreLanesOf (set lanes k new) streams
took_lanes [] k old new streams at taken are = absurd cc
took_lanes (l ∷ lanes) k old new [] at taken are = absurd are
took_lanes {Z = Z} (l ∷ lanes) zero old new (s ∷ streams) at taken are =
    let own : IsLaneOf old s = subst (λ (x : Lane Z). IsLaneOf x s) (same_Some l old at) are.0 in (
      record {
        port = own.port ∙ sym taken.port;
        ended = own.ended ∙ sym taken.ended;
        read = record {
          no_fault = ap (λ r. r.fault) taken.reader ∙ own.read.no_fault;
          taken = subst (λ r. HasTaken (record { bytes = r.bytes; given = r.given }) s.records) (sym taken.reader) own.read.taken;
          last = taken.last ∙ own.read.last;
        };
      },
      are.1,
    )
took_lanes (l ∷ lanes) (suc k) old new (s ∷ streams) at taken are = (are.0, took_lanes lanes k old new streams at taken are.1)

took_waiting : {Z : Type 0} (lanes : List (Lane Z)) (k : ℕ) (old new : Lane Z) → slice_get lanes k ≡ Some old → IsTaken old new → map waiting_of (set lanes k new) ≡ map waiting_of lanes
took_waiting [] k old new at taken = absurd cc
took_waiting {Z = Z} (l ∷ lanes) zero old new at taken =
    ap (λ w. record { port = new.port; records = w.items } ∷ map waiting_of lanes) taken.waiting
    ∙ ap (λ n. record { port = n; records = old.waiting.items } ∷ map waiting_of lanes) taken.port
    ∙ ap (λ (x : Lane Z). waiting_of x ∷ map waiting_of lanes) (sym (same_Some l old at))
took_waiting (l ∷ lanes) (suc k) old new at taken = ap (λ ws. waiting_of l ∷ ws) (took_waiting lanes k old new at taken)

took_ports : {Z : Type 0} (lanes : List (Lane Z)) (k : ℕ) (old new : Lane Z) → slice_get lanes k ≡ Some old → IsTaken old new → map (λ (l : Lane Z). l.port) (set lanes k new)
    ≡ map (λ (l : Lane Z). l.port) lanes
took_ports [] k old new at taken = absurd cc
took_ports {Z = Z} (l ∷ lanes) zero old new at taken = ap (λ n. n ∷ map (λ (x : Lane Z). x.port) lanes) (taken.port ∙ ap (λ (x : Lane Z). x.port) (sym (same_Some l old at)))
took_ports (l ∷ lanes) (suc k) old new at taken = ap (λ ns. l.port ∷ ns) (took_ports lanes k old new at taken)

took_marked : {Z : Type 0} (begun : Bool) (lanes : List (Lane Z)) (k : ℕ) (old new : Lane Z) → slice_get lanes k ≡ Some old → IsTaken old new → AllByRecursion (IsMarked begun) lanes
    → AllByRecursion (IsMarked begun) (set lanes k new)
took_marked begun [] k old new at taken marked = absurd cc
took_marked {Z = Z} begun (l ∷ lanes) zero old new at taken marked = (marked_taken begun old new taken (subst (λ (x : Lane Z). IsMarked begun x) (same_Some l old at) marked.0), marked.1)
took_marked begun (l ∷ lanes) (suc k) old new at taken marked = (marked.0, took_marked begun lanes k old new at taken marked.1)

length-set-lanes : {Z : Type 0} (lanes : List (Lane Z)) (k : ℕ) (new : Lane Z) → length (set lanes k new) ≡ length lanes
length-set-lanes [] k new = refl
length-set-lanes (l ∷ lanes) zero new = refl
length-set-lanes (l ∷ lanes) (suc k) new = ap suc (length-set-lanes lanes k new)

running_took : {Z : Type 0} (begun : Bool) (t : Content) (lanes : List (Lane Z)) (s : State) (counts : Tally) (k : ℕ) (old new : Lane Z) → slice_get lanes k ≡ Some old → IsTaken old new
    → AllByRecursion (IsMarked begun) lanes → IsRunning t lanes s counts
    → IsRunning t (set lanes k new) s counts
running_took {Z} begun t lanes s counts k old new at taken marked run = record {
  going = record {
    streams = going.streams;
    given = going.given;
    since = going.since;
    lanes_are = took_lanes lanes k old new going.streams at taken going.lanes_are;
    settling = subst (IsSettling going.streams going.given) (sym (took_waiting lanes k old new at taken)) going.settling;
    is_given = going.is_given;
    come = going.come;
    later = subst (λ ws. AllByRecursion (λ x. s.run.latest ≤ x.frame.stamp) (merged ws)) (sym (took_waiting lanes k old new at taken)) going.later;
    until = going.until;
    counts_are = going.counts_are;
    few = going.few;
    outs = λ place p l in_all is_port is_lane. elim (get-set lanes k place old new l at is_lane) [
      | inr other ↦ going.outs place p l tt is_port other
      | inl same ↦
          subst (λ (x : Lane Z). IsOut t going.given going.since s p place x) (sym same.1)
          (out_taken begun t going.given going.since s p place old new taken (all_slice_get (IsMarked begun) lanes k old marked at)
          (going.outs place p old tt is_port (ap (slice_get lanes) same.0 ∙ at)))
    ];
  };
  out = λ some. run.out (subst (λ n. 0 < n) (length-set-lanes lanes k new) some);
} where
  going : IsGoing t lanes s counts
  going = run.going

-- what is true of a session stays
pub kept_taken : {Z : Type 0} (m next : Machine Z) (begun failed : Bool) (k : ℕ) (old new : Lane Z) → slice_get m.lanes.items k ≡ Some old → IsTaken old new → next.switch ≡ m.switch → next.counts
    ≡ m.counts → next.lanes.items ≡ set m.lanes.items k new
    → IsKeptMachine m begun failed → IsKeptMachine next begun failed
kept_taken {Z} m next begun failed k old new at taken switch counts lanes kept = record {
  of = rw (switch, lanes) (record { formed = kept.of.formed; ports = took_ports m.lanes.items k old new at taken ∙ kept.of.ports });
  handed = rw switch kept.handed;
  accepted = rw switch kept.accepted;
  shown = rw (switch, lanes) (shown_took m.switch.run.table begun m.lanes.items k old new at taken kept.shown);
  ready = λ not_failed.
      let ready = kept.ready not_failed in
      record {
        running = rw (switch, lanes, counts) (running_took begun m.switch.run.table m.lanes.items m.switch m.counts k old new at taken ready.marked ready.running);
        read = rw lanes (all_set HasReadAll m.lanes.items k new ready.read (read_same old new taken.reader taken.ended (all_slice_get HasReadAll m.lanes.items k old ready.read at)));
        marked = rw lanes (took_marked begun m.lanes.items k old new at taken ready.marked);
      };
}

-- what is put back where it was changes nothing
pub set_back : {X : Type 0} (xs ys : List X) (k : ℕ) (old new : X) → slice_get xs k ≡ Some old → new ≡ old → ys ≡ set xs k new → ys ≡ xs
set_back xs ys k old new at same is = is ∙ ap (set xs k) same ∙ set_same xs k old at

kept_same : {Z : Type 0} (m next : Machine Z) (begun failed : Bool) → next.switch ≡ m.switch → next.counts ≡ m.counts → next.lanes.items ≡ m.lanes.items → IsKeptMachine m begun failed
    → IsKeptMachine next begun failed
kept_same {Z} m next begun failed switch counts lanes kept = record {
  of = rw (switch, lanes) kept.of;
  handed = rw switch kept.handed;
  accepted = rw switch kept.accepted;
  shown = rw (switch, lanes) kept.shown;
  ready = λ not_failed.
      let ready = kept.ready not_failed in
      record { running = rw (switch, lanes, counts) ready.running; read = rw lanes ready.read; marked = rw lanes ready.marked };
}

-- whether it was taken, or memory ran out
pub kept_taken_into : {Z : Type 0} (m next : Machine Z) (begun failed : Bool) (k : ℕ) (old new : Lane Z) (result : Result (Unit {0}) AllocError) → slice_get m.lanes.items k ≡ Some old
    → OnOk result (IsTaken old new) → IfErr result (λ _. new ≡ old) → next.switch ≡ m.switch → next.counts ≡ m.counts → next.lanes.items ≡ set m.lanes.items k new
    → IsKeptMachine m begun failed → IsKeptMachine next begun failed
kept_taken_into m next begun failed k old new (Ok done) at taken same switch counts lanes kept = kept_taken m next begun failed k old new at taken switch counts lanes kept
kept_taken_into m next begun failed k old new (Err e) at taken same switch counts lanes kept =
    kept_same m next begun failed switch counts (set_back m.lanes.items next.lanes.items k old new at same lanes) kept
