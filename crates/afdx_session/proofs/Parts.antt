-- What goes to the files of the ports in parts.
use Rattle.std.proofs.Common.{◌≡◌, ◌≢◌, ◌⊎◌, ℕ, zero, suc, ◌+◌, ◌<◌, ◌≤◌, ◌^◌, List, [], ◌∷◌, ◌++◌, map, length, take, drop, set, slice_get, Option, Some, option_map}
use Rattle.std.proofs.Common.{refl, ap, sym, ◌∙◌, arith, subst, append_assoc, inl, inr, length-set}
use Rattle.std.specs.List.{AllByRecursion}
use Rattle.std.specs.Io.KnownBytes.{Appends}
use Rattle.std.proofs.KnownBytes.{Appends-trans}
use Rattle.std.proofs.Math.Seq.{take-append_seam}
use Rattle.std.proofs.lemmas.List.{length-drop, length-map}
use Rattle.std.proofs.lemmas.Option.{same_Some, slice_get-map}
use Rattle.afdx_pcap.specs.Reading.{HasTaken}
use Rattle.afdx_table.specs.declared.rows.PortRow.{PortRow}
use Rattle.afdx_table.specs.Content.{Content}
use Rattle.afdx_port.specs.Inner.Admission.{EarlierEventsStayAdmitted}
use Rattle.afdx_port.specs.Inner.Order.{ReachesInOrder}
use Rattle.afdx_port.specs.Inner.Events.{SentGoesOn}
use Rattle.afdx_core.specs.State.{State}
use Rattle.afdx_core.specs.Merge.{Arrival, Capture, merged}
use Rattle.afdx_core.specs.Inner.Merge.{ByStampIsOrdered}
use Rattle.afdx_count.specs.Tally.{Tally}
use Rattle.afdx_session.specs.declared.lane.Lane.{Lane}
use Rattle.afdx_session.specs.declared.machine.Machine.{Machine}
use Rattle.afdx_session.specs.Texts.{Text}
use Rattle.afdx_session.specs.Reading.{AreCaptures}
use Rattle.afdx_session.specs.Output.{output_text}
use Rattle.afdx_session.specs.Streams.{Stream}
use Rattle.afdx_session.specs.Inner.Settled.{IsSettling}
use Rattle.afdx_session.specs.Inner.Lanes.{waiting_of}
use Rattle.afdx_session.specs.Inner.Lent.{IsOver, texts_over, taken_by, left_of, left_in, IsCarrying, HandsOn}
use Rattle.afdx_session.specs.Inner.Kept.{IsLaneOf, AreLanesOf, AreOfTable, text_up_to, IsOutAt, IsOut, IsGoing, IsOfSameTable}
use Rattle.afdx_session.specs.Inner.Files.{HandsOver, HavePrefixes, HaveMore, PutsOut, Proceeds}
use Rattle.afdx_session.proofs.Bounded.{text_bound}
use Rattle.afdx_session.proofs.Carrying.{texts_set}
use Rattle.afdx_session.proofs.Drawing.{takes_first}
use Rattle.afdx_session.proofs.Ending.{TakenAreTheCapture}
use Rattle.afdx_session.proofs.Going.{get-set}
use Rattle.afdx_session.proofs.Gone.{port_of_lane}
use Rattle.afdx_session.proofs.Intakes.{still_of_table}
use Rattle.afdx_session.proofs.Lending.{ports_stay}
use Rattle.afdx_session.proofs.Numbered.{all_slice_get}
use Rattle.afdx_session.proofs.ReadUp.{read_same, all_set}
use Rattle.afdx_session.proofs.Prefix.{TakenBeginTheCapture, OneReading, out_is_a_prefix}
use Rattle.afdx_session.proofs.Rounds.{same_both}

-- ---- lists

-- so many bytes and those behind them are so many more
taken_on : (n : ℕ) (text rest bytes left : List ℕ) → n ≤ length text → drop n text ≡ bytes ++ left → take n (text ++ rest) ++ bytes ≡ take (n + length bytes) (text ++ rest)
taken_on zero text rest bytes left le same =
    sym (take-append_seam bytes (left ++ rest)) ∙ ap (take (length bytes)) (sym (append_assoc bytes left rest) ∙ ap (λ xs. xs ++ rest) (sym same))
    ∙ (let e : length bytes ≡ zero + length bytes = omega arith in ap (λ k. take k (text ++ rest)) e)
taken_on (suc n) [] rest bytes left le same = absurd (omega (arith, le))
taken_on (suc n) (x ∷ text) rest bytes left le same =
    ap (λ xs. x ∷ xs) (taken_on n text rest bytes left (omega (arith, le)) same)
    ∙ (let e : suc (n + length bytes) ≡ suc n + length bytes = omega arith in ap (λ k. take k (x ∷ (text ++ rest))) e)

-- ---- a lane hands over what it has

-- it is over what it was
over_still : {Z : Type 0} (bytes : List ℕ) (old new : Lane Z) → HandsOver bytes old new → IsOver old → IsOver new
over_still bytes old new hands over = record {
  closed = ap (λ r. r.closed) hands.reader ∙ over.closed;
  head = λ still_open. let one = over.head (sym hands.ended ∙ still_open) in (one.0, ap (λ w. w.items) hands.waiting ∙ one.1, hands.last ∙ one.2);
  read = λ ended.
      let all = over.read (sym hands.ended ∙ ended) in
      (ap (λ w. w.items) hands.waiting ∙ all.0, read_same old new hands.reader hands.ended all.1);
}

left_same : {Z : Type 0} (lanes : List (Lane Z)) (k : ℕ) (bytes : List ℕ) (old new : Lane Z) → slice_get lanes k ≡ Some old → HandsOver bytes old new → left_in (set lanes k new) ≡ left_in lanes
left_same [] k bytes old new at hands = absurd cc
left_same {Z = Z} (l ∷ lanes) zero bytes old new at hands =
    let same : l ≡ old = same_Some l old at in
    ap (λ n. n + left_in lanes) (rw (hands.reader, hands.ended) refl ∙ ap (λ (x : Lane Z). left_of x) (sym same))
left_same (l ∷ lanes) (suc k) bytes old new at hands = ap (λ n. left_of l + n) (left_same lanes k bytes old new at hands)

waiting_same : {Z : Type 0} (lanes : List (Lane Z)) (k : ℕ) (bytes : List ℕ) (old new : Lane Z) → slice_get lanes k ≡ Some old → HandsOver bytes old new
    → map waiting_of (set lanes k new) ≡ map waiting_of lanes
waiting_same [] k bytes old new at hands = absurd cc
waiting_same {Z = Z} (l ∷ lanes) zero bytes old new at hands =
    let same : l ≡ old = same_Some l old at in
    ap (λ w. w ∷ map waiting_of lanes) (rw (hands.port, hands.waiting) refl ∙ ap (λ (x : Lane Z). waiting_of x) (sym same))
waiting_same (l ∷ lanes) (suc k) bytes old new at hands = ap (λ ws. waiting_of l ∷ ws) (waiting_same lanes k bytes old new at hands)

lane_still : {Z : Type 0} (bytes : List ℕ) (old new : Lane Z) (s : Stream) → HandsOver bytes old new → IsLaneOf old s → IsLaneOf new s
lane_still bytes old new s hands is = record {
  port = is.port ∙ sym hands.port;
  ended = is.ended ∙ sym hands.ended;
  read = record {
    no_fault = ap (λ r. r.fault) hands.reader ∙ is.read.no_fault;
    taken = subst (λ r. HasTaken (record { bytes = r.bytes; given = r.given }) s.records) (sym hands.reader) is.read.taken;
    last = hands.last ∙ is.read.last;
  };
}

lanes_still : {Z : Type 0} (lanes : List (Lane Z)) (streams : List Stream) (k : ℕ) (bytes : List ℕ) (old new : Lane Z) → slice_get lanes k ≡ Some old → HandsOver bytes old new
    → AreLanesOf lanes streams → AreLanesOf (set lanes k new) streams
lanes_still [] streams k bytes old new at hands are = absurd cc
lanes_still (l ∷ lanes) [] k bytes old new at hands are = absurd are
lanes_still {Z = Z} (l ∷ lanes) (s ∷ streams) zero bytes old new at hands are =
    (lane_still bytes old new s hands (subst (λ (x : Lane Z). IsLaneOf x s) (same_Some l old at) are.0), are.1)
lanes_still (l ∷ lanes) (s ∷ streams) (suc k) bytes old new at hands are = (are.0, lanes_still lanes streams k bytes old new at hands are.1)

-- what it has of the output is what is behind
out_on : {Z : Type 0} (t : Content) (given : List Arrival) (h : ℕ) (s : State) (p : PortRow) (place : ℕ) (bytes : List ℕ) (old new : Lane Z) → HandsOver bytes old new
    → IsOut t given h s p place old → IsOut t given h s p place new
out_on t given h s p place bytes old new hands out =
    subst (λ n. IsOutAt t given h s p place n new.out.items) (sym hands.taken)
    (takes_first t given h s p place old.taken bytes new.out.items (subst (IsOutAt t given h s p place old.taken) hands.out out))

going_on : {Z : Type 0} (t : Content) (lanes : List (Lane Z)) (s : State) (counts : Tally) (k : ℕ) (bytes : List ℕ) (old new : Lane Z) → slice_get lanes k ≡ Some old → HandsOver bytes old new
    → IsGoing t lanes s counts → IsGoing t (set lanes k new) s counts
going_on {Z} t lanes s counts k bytes old new at hands going = record {
  streams = going.streams;
  given = going.given;
  since = going.since;
  lanes_are = lanes_still lanes going.streams k bytes old new at hands going.lanes_are;
  settling = subst (IsSettling going.streams going.given) (sym waits) going.settling;
  is_given = going.is_given;
  come = going.come;
  later = subst (λ ws. AllByRecursion (λ a. s.run.latest ≤ a.frame.stamp) (merged ws)) (sym waits) going.later;
  until = going.until;
  counts_are = going.counts_are;
  few = going.few;
  outs = λ place p l in_all is_port is_lane. elim (get-set lanes k place old new l at is_lane) [
    | inr other ↦ going.outs place p l tt is_port other
    | inl same ↦
        let was = going.outs place p old tt is_port (ap (slice_get lanes) same.0 ∙ at) in
        subst (λ (x : Lane Z). IsOut t going.given going.since s p place x) (sym same.1) (out_on t going.given going.since s p place bytes old new hands was)
  ];
} where
  waits : map waiting_of (set lanes k new) ≡ map waiting_of lanes
  waits = waiting_same lanes k bytes old new at hands

-- ---- the files

taken_set : {Z : Type 0} (lanes : List (Lane Z)) (k : ℕ) (new : Lane Z) → taken_by (set lanes k new) ≡ set (taken_by lanes) k new.taken
taken_set [] k new = refl
taken_set (l ∷ lanes) zero new = refl
taken_set (l ∷ lanes) (suc k) new = ap (λ ns. l.taken ∷ ns) (taken_set lanes k new)

-- what is at a place of a list one of whose elements was set
pub at_set : {X : Type 0} (xs : List X) (k j : ℕ) (new x : X) → slice_get (set xs k new) j ≡ Some x → ((j ≡ k) × (x ≡ new)) ⊎ ((j ≢ k) × (slice_get xs j ≡ Some x))
at_set [] k j new x is = absurd cc
at_set (y ∷ xs) zero zero new x is = inl (refl, sym (same_Some new x is))
at_set (y ∷ xs) zero (suc j) new x is = inr (λ e. absurd (omega (arith, e)), is)
at_set (y ∷ xs) (suc k) zero new x is = inr (λ e. absurd (omega (arith, e)), is)
at_set (y ∷ xs) (suc k) (suc j) new x is = elim (at_set xs k j new x is) [
  | inl here ↦ inl (ap suc here.0, here.1)
  | inr other ↦ inr (λ e. other.0 (omega (arith, e)), other.1)
]

-- the file at a place has more
more_on : {F : Type 0} (contents : F → Option (List ℕ)) (t : Content) (arrivals : List Arrival) (taken : List ℕ) (start now : List F) (k n : ℕ) (bytes : List ℕ) (f g : F)
    → slice_get taken k ≡ Some n → slice_get now k ≡ Some f → Appends (contents f) (contents g) bytes
    → ((p : PortRow) → slice_get t.ports k ≡ Some p → take n (output_text t arrivals p) ++ bytes ≡ take (n + length bytes) (output_text t arrivals p))
    → HavePrefixes contents t arrivals taken start now → HavePrefixes contents t arrivals (set taken k (n + length bytes)) start (set now k g)
more_on {F} contents t arrivals taken start now k n bytes f g is_taken is_now appends on have = record {
  long = length-set now k g ∙ have.long;
  each = λ place m p o x is_port is_m is_o is_x. by place m p o x is_port is_o (at_set taken k place (n + length bytes) m is_m) (at_set now k place g x is_x);
} where
  by : (place m : ℕ) (p : PortRow) (o x : F) → slice_get t.ports place ≡ Some p → slice_get start place ≡ Some o
      → ((place ≡ k) × (m ≡ n + length bytes)) ⊎ ((place ≢ k) × (slice_get taken place ≡ Some m))
      → ((place ≡ k) × (x ≡ g)) ⊎ ((place ≢ k) × (slice_get now place ≡ Some x)) → Appends (contents o) (contents x) (take m (output_text t arrivals p))
  by place m p o x is_port is_o (inl here) (inr other) = absurd (other.0 here.0)
  by place m p o x is_port is_o (inr other) (inl here) = absurd (other.0 here.0)
  by place m p o x is_port is_o (inr one) (inr other) = have.each place m p o x is_port one.1 is_o other.1
  by place m p o x is_port is_o (inl one) (inl here) =
      let is_port_k : slice_get t.ports k ≡ Some p = ap (slice_get t.ports) (sym one.0) ∙ is_port in
      let was : Appends (contents o) (contents f) (take n (output_text t arrivals p)) = have.each k n p o f is_port_k is_taken (ap (slice_get start) (sym one.0) ∙ is_o) is_now in
      let both = Appends-trans (contents o) (contents f) (contents g) (take n (output_text t arrivals p)) bytes was appends in
      subst (λ (y : F). Appends (contents o) (contents y) (take m (output_text t arrivals p))) (sym here.1)
      (subst (λ j. Appends (contents o) (contents g) (take j (output_text t arrivals p))) (sym one.1)
      (subst (Appends (contents o) (contents g)) (on p is_port_k) both))

-- of the same table and captures
pub have_over : {F : Type 0} (contents : F → Option (List ℕ)) (t u : Content) (texts others : List Text) (taken : List ℕ) (start now : List F) → t ≡ u → texts ≡ others
    → HaveMore contents t texts taken start now → HaveMore contents u others taken start now
have_over contents t u texts others taken start now table same have =
    subst (λ ts. HaveMore contents u ts taken start now) same (subst (λ (c : Content). HaveMore contents c texts taken start now) table have)

-- ---- all lanes, one after the other

pub puts_none : {F Z : Type 0} (contents : F → Option (List ℕ)) (m : Machine Z) (files : List F) → IsCarrying m → PutsOut contents m files m.lanes.items files
puts_none contents m files carrying = record {
  of = carrying.of;
  going = carrying.going;
  over = carrying.over;
  texts = refl;
  left = refl;
  many = refl;
  long = refl;
  more = λ start have. have;
}

-- what a lane has taken and has is no longer than what is counted can be
pub bound_at : {F Z : Type 0} → ByStampIsOrdered → (contents : F → Option (List ℕ)) (m : Machine Z) (files : List F) (lanes : List (Lane Z)) (now : List F) (k : ℕ) (l : Lane Z)
    → PutsOut contents m files lanes now → slice_get lanes k ≡ Some l → l.taken + length l.out.items < 2 ^ 128
bound_at ordered contents m files lanes now k l puts at =
    let port = port_of_lane m.switch.run.table.ports lanes k l puts.of.ports at in
    let out = puts.going.outs k port.0 l tt port.1 at in
    let text = text_up_to m.switch.run.table puts.going.given puts.going.since port.0 in
    let long = ap length out.left ∙ length-drop l.taken text in
    let most = text_bound ordered m.switch.run.table lanes m.switch m.counts puts.going port.0 in
    let within = out.taken in
    omega (arith, long, most, within)

pub puts_one : {F Z : Type 0} → ByStampIsOrdered → EarlierEventsStayAdmitted → ReachesInOrder → SentGoesOn → TakenAreTheCapture → TakenBeginTheCapture → OneReading
    → (contents : F → Option (List ℕ)) (m : Machine Z) (files : List F) (lanes : List (Lane Z)) (now : List F) (k : ℕ) (bytes : List ℕ) (old new : Lane Z) (f g : F)
    → slice_get lanes k ≡ Some old → slice_get now k ≡ Some f → HandsOver bytes old new → Appends (contents f) (contents g) bytes → PutsOut contents m files lanes now
    → PutsOut contents m files (set lanes k new) (set now k g)
puts_one {F} {Z} ordered stay reaches goes_on takes begin one contents m files lanes now k bytes old new f g at is_now hands appends puts = record {
  of = still_of_table t lanes (set lanes k new) (ports_stay lanes k old new at hands.port) puts.of;
  going = going_on t lanes m.switch m.counts k bytes old new at hands puts.going;
  over = all_set IsOver lanes k new puts.over (over_still bytes old new hands (all_slice_get IsOver lanes k old puts.over at));
  texts = texts_set lanes k old new at hands.port (ap (λ r. r.bytes) hands.reader) ∙ puts.texts;
  left = left_same lanes k bytes old new at hands ∙ puts.left;
  many = length-set lanes k new ∙ puts.many;
  long = length-set now k g ∙ puts.long;
  more = λ start have.
      subst (λ ns. HaveMore contents t texts ns start (set now k g)) (ap (set (taken_by lanes) k) (sym hands.taken) ∙ sym (taken_set lanes k new))
      (λ read are. more_on contents t (merged read) (taken_by lanes) start now k old.taken bytes f g
      (slice_get-map (λ (l : Lane Z). l.taken) lanes k ∙ ap (option_map (λ (l : Lane Z). l.taken)) at) is_now appends (on read are)
      (puts.more start have read are));
} where
  t : Content
  t = m.switch.run.table

  texts : List Text
  texts = texts_over m.lanes.items

  on : (read : List Capture) → AreCaptures texts read → (p : PortRow) → slice_get t.ports k ≡ Some p
      → take old.taken (output_text t (merged read) p) ++ bytes ≡ take (old.taken + length bytes) (output_text t (merged read) p)
  on read are p is_port =
      let out = puts.going.outs k p old tt is_port at in
      let prefix = out_is_a_prefix ordered stay reaches goes_on takes begin one t lanes m.switch m.counts puts.going puts.over read (subst (λ ts. AreCaptures ts read) (sym puts.texts) are) p in
      ap (λ text. take old.taken text ++ bytes) prefix.1
      ∙ taken_on old.taken (text_up_to t puts.going.given puts.going.since p) prefix.0 bytes new.out.items out.taken (sym out.left ∙ hands.out)
      ∙ ap (take (old.taken + length bytes)) (sym prefix.1)

-- ---- the machine goes on

pub same_length : {Z : Type 0} (old new : List (Lane Z)) → taken_by new ≡ taken_by old → length new ≡ length old
same_length old new same =
    let a = length-map new (λ l. l.taken) in
    let b = length-map old (λ l. l.taken) in
    let both = ap (λ (ns : List ℕ). length ns) same in
    omega (arith, a, b, both)

carrying_on : {Z : Type 0} (mid next : Machine Z) → AreOfTable mid.switch.run.table next.lanes.items → length mid.switch.run.handed ≡ length mid.switch.run.table.ports
    → IsGoing mid.switch.run.table next.lanes.items mid.switch mid.counts → AllByRecursion IsOver next.lanes.items → next.switch ≡ mid.switch → next.counts ≡ mid.counts → IsCarrying next
carrying_on mid next of handed going over switch counts = record {
  of = rw switch of;
  handed = rw switch handed;
  going = rw (switch, counts) going;
  over = over;
}

-- what left went to the files
pub proceeds_out : {F Z : Type 0} (contents : F → Option (List ℕ)) (m mid next : Machine Z) (now after : List F) → HandsOn m mid → PutsOut contents mid now next.lanes.items after
    → next.switch ≡ mid.switch → next.counts ≡ mid.counts → Proceeds contents m now next after
proceeds_out {F} {Z} contents m mid next now after out puts switch counts = record {
  carrying = carrying_on mid next puts.of out.carrying.handed puts.going puts.over switch counts;
  same = subst (λ (s : State). IsOfSameTable m.switch s) (sym switch) out.same;
  texts = puts.texts ∙ out.texts;
  many = puts.many ∙ same_length m.lanes.items mid.lanes.items out.taken;
  long = puts.long;
  more = λ first have.
      have_over contents mid.switch.run.table m.switch.run.table (texts_over mid.lanes.items) (texts_over m.lanes.items) (taken_by next.lanes.items) first after out.same.table out.texts
      (puts.more first
      (have_over contents m.switch.run.table mid.switch.run.table (texts_over m.lanes.items) (texts_over mid.lanes.items) (taken_by mid.lanes.items) first now (sym out.same.table) (sym out.texts)
      (subst (λ ns. HaveMore contents m.switch.run.table (texts_over m.lanes.items) ns first now) (sym out.taken) have)));
}

-- and went on
pub proceeds_then : {F Z : Type 0} (contents : F → Option (List ℕ)) (start m next : Machine Z) (files now after : List F) → Proceeds contents start files m now → Proceeds contents m now next after
    → Proceeds contents start files next after
proceeds_then {F} {Z} contents start m next files now after was on = record {
  carrying = on.carrying;
  same = same_both start.switch m.switch next.switch was.same on.same;
  texts = on.texts ∙ was.texts;
  many = on.many ∙ was.many;
  long = on.long ∙ was.long;
  more = λ first have.
      have_over contents m.switch.run.table start.switch.run.table (texts_over m.lanes.items) (texts_over start.lanes.items) (taken_by next.lanes.items) first after was.same.table was.texts
      (on.more first
      (have_over contents start.switch.run.table m.switch.run.table (texts_over start.lanes.items) (texts_over m.lanes.items) (taken_by m.lanes.items) first now (sym was.same.table)
      (sym was.texts) (was.more first have)));
}

-- ---- all have ended

-- the switch went on, and nothing was put
pub proceeds_hands : {F Z : Type 0} (contents : F → Option (List ℕ)) (start m next : Machine Z) (files now : List F) → Proceeds contents start files m now → HandsOn m next
    → Proceeds contents start files next now
proceeds_hands contents start m next files now was on =
    proceeds_then contents start m next files now now was (proceeds_out contents m next next now now on (puts_none contents next now on.carrying) refl refl)
