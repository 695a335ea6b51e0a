-- What has gone out and was not taken is the prefix of each lane's output.
use Rattle.std.proofs.Common.{◌≡◌, ℕ, zero, suc, ◌+◌, ◌≤◌, Bool, true, false, List, [], ◌∷◌, ◌++◌, map, length, take, drop, slice_get, Some, refl, ap, sym, ◌∙◌, arith, subst}
use Rattle.std.specs.List.{AllByRecursion}
use Rattle.std.proofs.lemmas.List.{length-append}
use Rattle.std.proofs.lemmas.Option.{same_Some}
use Rattle.std.proofs.Math.Seq.{take-length}
use Rattle.afdx_core.specs.Inner.Merge.{ByStampIsOrdered}
use Rattle.afdx_pcap.specs.Reading.{NoNext}
use Rattle.afdx_table.specs.Content.{Content}
use Rattle.afdx_port.specs.Inner.Admission.{EarlierEventsStayAdmitted}
use Rattle.afdx_port.specs.Inner.Order.{ReachesInOrder}
use Rattle.afdx_session.specs.declared.lane.Lane.{Lane}
use Rattle.afdx_session.specs.declared.machine.Machine.{Machine}
use Rattle.afdx_session.specs.Streams.{Stream, AreWhole, AllStartBeforeTheLastInstant}
use Rattle.afdx_session.specs.Session.{Intake, IsStream, AreStreams}
use Rattle.afdx_session.specs.Inner.Lanes.{HasReadAll}
use Rattle.afdx_session.specs.Inner.Kept.{AreLanesOf, AreOfTable, text_up_to, IsMarked, IsOfSameTable}
use Rattle.afdx_session.specs.Inner.View.{intakes_of, gone_out, IsShownAt, IsShown, IsReady, IsKeptMachine, IsHalfDone, AreHalfDone}
use Rattle.afdx_session.proofs.Numbered.{all_slice_get}
use Rattle.afdx_session.proofs.Gone.{text_is}
use Rattle.afdx_session.proofs.Intakes.{marked_bytes}
use Rattle.afdx_session.proofs.Bounded.{text_bound}
use Rattle.afdx_load.specs.Accepted.{IsAccepted}

-- ---- after a call that answered Ok

-- the lanes agree with the whole records of what contracts see
pub lanes_are_streams : {Z : Type 0} (begun : Bool) (lanes : List (Lane Z)) (streams : List Stream) → AllByRecursion (IsMarked begun) lanes → AllByRecursion HasReadAll lanes → AreLanesOf lanes streams
    → AreStreams (intakes_of lanes) streams
lanes_are_streams begun [] [] marked read are = tt
lanes_are_streams begun [] (s ∷ streams) marked read are = absurd are
lanes_are_streams begun (l ∷ lanes) [] marked read are = absurd are
lanes_are_streams begun (l ∷ lanes) (s ∷ streams) marked read are = (
  record {
    port = are.0.port;
    records = subst (λ bytes. AreWhole bytes s.records) (sym (marked_bytes begun l marked.0)) (record {
      first = are.0.read.taken.first;
      none_left = subst (NoNext l.reader.bytes) (sym are.0.read.taken.count) read.0.none_left;
    });
    closed = are.0.ended ∙ read.0.ended ∙ sym marked.0.closed;
  },
  lanes_are_streams begun lanes streams marked.1 read.1 are.1,
)

pub length-drop-within : (n : ℕ) (xs : List ℕ) → n ≤ length xs → n + length (drop n xs) ≡ length xs
length-drop-within zero xs le = omega arith
length-drop-within (suc n) [] le = absurd (omega (arith, le))
length-drop-within (suc n) (x ∷ xs) le = let more = length-drop-within n xs (omega (arith, le)) in omega (arith, more)

pub shown_ready : {Z : Type 0} → ByStampIsOrdered → EarlierEventsStayAdmitted → ReachesInOrder → AllStartBeforeTheLastInstant → (m : Machine Z) → AreOfTable m.switch.run.table m.lanes.items
    → IsReady m true → IsShown m.switch.run.table true m.lanes.items
shown_ready ordered stay reaches ends m of ready = record {
  streams = ready.running.going.streams;
  are = lanes_are_streams true m.lanes.items ready.running.going.streams ready.marked ready.read ready.running.going.lanes_are;
  each = λ place p l is_port is_lane.
      let out = ready.running.going.outs place p l tt is_port is_lane in
      let marked = all_slice_get (IsMarked true) m.lanes.items place l ready.marked is_lane in
      let same = text_is ordered stay reaches ends m.switch.run.table m.lanes.items m.switch m.counts ready.running place p l of is_port is_lane in
      let bound = text_bound ordered m.switch.run.table m.lanes.items m.switch m.counts ready.running.going p in
      let long = ap length out.left in
      let cut = length-drop-within l.taken (text_up_to m.switch.run.table ready.running.going.given ready.running.going.since p) out.taken in
      let is_ready : l.ready ≡ length l.out.items = marked.ready in
      record {
        taken = subst (λ text. l.taken ≤ length text) (sym same) out.taken;
        prefix = ap (λ n. take n l.out.items) is_ready ∙ take-length l.out.items ∙ out.left ∙ ap (drop l.taken) (sym same);
        ready = omega (arith, is_ready);
        bound = omega (arith, is_ready, long, cut, bound);
      };
}

-- ---- after a call that failed

half_streams : {Z : Type 0} (old new : List (Lane Z)) (streams : List Stream) → AreHalfDone old new → AreStreams (intakes_of old) streams → AreStreams (intakes_of new) streams
half_streams [] [] streams half are = are
half_streams [] (n ∷ new) streams half are = absurd half
half_streams (l ∷ old) [] streams half are = absurd half
half_streams (l ∷ old) (n ∷ new) [] half are = absurd are
half_streams (l ∷ old) (n ∷ new) (s ∷ streams) half are = (subst (λ i. IsStream i s) (sym half.0.intake) are.0, half_streams old new streams half.1 are.1)

half_lane : {Z : Type 0} (old new : List (Lane Z)) (k : ℕ) (n : Lane Z) → AreHalfDone old new → slice_get new k ≡ Some n → (l : Lane Z) × (slice_get old k ≡ Some l) × IsHalfDone l n
half_lane [] [] k n half at = absurd cc
half_lane [] (m ∷ new) k n half at = absurd half
half_lane (l ∷ old) [] k n half at = absurd half
half_lane {Z = Z} (l ∷ old) (m ∷ new) zero n half at = (l, refl, subst (λ (x : Lane Z). IsHalfDone l x) (same_Some m n at) half.0)
half_lane (l ∷ old) (m ∷ new) (suc k) n half at = half_lane old new k n half.1 at

take-within : (n : ℕ) (xs ys : List ℕ) → n ≤ length xs → take n (xs ++ ys) ≡ take n xs
take-within zero xs ys le = refl
take-within (suc n) [] ys le = absurd (omega (arith, le))
take-within (suc n) (x ∷ xs) ys le = ap (λ zs. x ∷ zs) (take-within n xs ys (omega (arith, le)))

half_shown : {Z : Type 0} (text : List ℕ) (l n : Lane Z) → IsHalfDone l n → IsShownAt text l → IsShownAt text n
half_shown text l n half shown =
    let taken : n.taken ≡ l.taken = ap (λ (i : Intake). i.taken) half.intake in
    let long = ap length half.out ∙ length-append l.out.items half.more in
    let ready = shown.ready in
    let bound = shown.bound in
    let same_ready = half.ready in
    record {
      taken = subst (λ m. m ≤ length text) (sym taken) shown.taken;
      prefix = ap (λ m. take m n.out.items) half.ready ∙ ap (take l.ready) half.out ∙ take-within l.ready l.out.items half.more shown.ready ∙ shown.prefix ∙ ap (λ m. drop m text) (sym taken);
      ready = omega (arith, long, ready, same_ready);
      bound = omega (arith, taken, same_ready, bound);
    }

pub shown_half : {Z : Type 0} (t : Content) (begun : Bool) (old new : List (Lane Z)) → AreHalfDone old new → IsShown t begun old → IsShown t begun new
shown_half t begun old new half shown = record {
  streams = shown.streams;
  are = half_streams old new shown.streams half shown.are;
  each = λ place p n is_port is_lane. let l = half_lane old new place n half is_lane in half_shown (gone_out t begun shown.streams p) l.0 n l.2 (shown.each place p l.0 is_port l.1);
}

pub half_ports : {Z : Type 0} (old new : List (Lane Z)) → AreHalfDone old new → map (λ (l : Lane Z). l.port) new ≡ map (λ (l : Lane Z). l.port) old
half_ports [] [] half = refl
half_ports [] (n ∷ new) half = absurd half
half_ports (l ∷ old) [] half = absurd half
half_ports {Z = Z} (l ∷ old) (n ∷ new) half = ap (λ m. m ∷ map (λ (x : Lane Z). x.port) new) (ap (λ (i : Intake). i.port) half.0.intake) ∙ ap (λ ms. l.port ∷ ms) (half_ports old new half.1)

-- ---- what is true of each session stays

pub kept_failed : {Z : Type 0} (old new : Machine Z) (begun : Bool) → IsOfSameTable old.switch new.switch → AreHalfDone old.lanes.items new.lanes.items → IsKeptMachine old begun false
    → IsKeptMachine new begun true
kept_failed old new begun same half kept = record {
  of = subst (λ t. AreOfTable t new.lanes.items) (sym same.table) (record { formed = kept.of.formed; ports = half_ports old.lanes.items new.lanes.items half ∙ kept.of.ports });
  handed = same.handed ∙ kept.handed ∙ ap (λ (t : Content). length t.ports) (sym same.table);
  accepted = λ accepted. subst IsAccepted (sym same.table) (kept.accepted (sym same.accepted ∙ accepted));
  shown = subst (λ t. IsShown t begun new.lanes.items) (sym same.table) (shown_half old.switch.run.table begun old.lanes.items new.lanes.items half kept.shown);
  ready = λ not_failed. absurd (cc_false not_failed);
} where
  cc_false : true ≡ false → ⊥
  cc_false e = absurd cc

pub kept_ready : {Z : Type 0} → ByStampIsOrdered → EarlierEventsStayAdmitted → ReachesInOrder → AllStartBeforeTheLastInstant → (old new : Machine Z) (begun failed : Bool)
    → IsOfSameTable old.switch new.switch → map (λ (l : Lane Z). l.port) new.lanes.items ≡ map (λ (l : Lane Z). l.port) old.lanes.items
    → IsKeptMachine old begun failed → IsReady new true → IsKeptMachine new true false
kept_ready ordered stay reaches ends old new begun failed same ports kept ready = record {
  of = of;
  handed = same.handed ∙ kept.handed ∙ ap (λ (t : Content). length t.ports) (sym same.table);
  accepted = λ accepted. subst IsAccepted (sym same.table) (kept.accepted (sym same.accepted ∙ accepted));
  shown = shown_ready ordered stay reaches ends new of ready;
  ready = λ not_failed. ready;
} where
  of : AreOfTable new.switch.run.table new.lanes.items
  of = subst (λ t. AreOfTable t new.lanes.items) (sym same.table) (record { formed = kept.of.formed; ports = ports ∙ kept.of.ports })
