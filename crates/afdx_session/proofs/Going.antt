-- A call goes on: a lane is read, records are given to the switch, and the switch comes to the frontier.
use Rattle.std.proofs.Common.{◌≡◌, ℕ, zero, suc, ◌<◌, ◌≤◌, false, List, [], ◌∷◌, map, drop, length, set, slice_get, Option, Some, None, refl, ap, sym, ◌∙◌, arith, inl, inr, subst}
use Rattle.std.specs.Prelude.{◌⊎◌}
use Rattle.std.specs.declared.collections.VecDeque.{VecDeque}
use Rattle.std.specs.List.{AllByRecursion}
use Rattle.std.proofs.lemmas.Bool.{cases_Bool, both_ways}
use Rattle.std.proofs.lemmas.Option.{same_Some}
use Rattle.afdx_units.specs.Time.{last_second}
use Rattle.afdx_pcap.specs.Record.{Record}
use Rattle.afdx_pcap.specs.Fault.{last_stamp}
use Rattle.afdx_pcap.proofs.Early.{first_early}
use Rattle.afdx_table.specs.declared.rows.PortRow.{PortRow}
use Rattle.afdx_table.specs.Content.{Content}
use Rattle.afdx_table.specs.WellFormed as table
use Rattle.afdx_core.specs.State.{State}
use Rattle.afdx_core.specs.Merge.{Arrival, Capture, Rises, arrivals_of}
use Rattle.afdx_core.specs.Inner.Merge.{ByStampIsOrdered, MergedIsAMerge, MergedIsByStampAndPort}
use Rattle.afdx_count.specs.Tally.{Tally}
use Rattle.afdx_session.specs.declared.lane.Lane.{Lane}
use Rattle.afdx_session.specs.Streams.{Stream, captures_of, last_of, frontier, merged_so_far, GoOn}
use Rattle.afdx_session.specs.Inner.Settled.{Ascend, ports_of, AllRise, AreQueued, AllWait}
use Rattle.afdx_session.specs.Inner.Lanes.{Adds, waiting_of, with_waiting}
use Rattle.afdx_session.specs.Inner.Kept.{IsLaneOf, AreLanesOf, AreOfTable, come_to, text_up_to, IsOut, AreOut, Every, IsGoing}
use Rattle.afdx_session.proofs.Joining.{AllFrom, records_weaken, by_stamp_every}
use Rattle.afdx_session.proofs.Numbered.{all_append}
use Rattle.afdx_session.proofs.Growing.{HaveReached, have_reached, reached_on, frontier_above, all_ended, no_frontier, AllEnded, further_of, reached-weaken, rises_back}
use Rattle.afdx_session.proofs.Settling.{all_prefix, all_back, by_stamp_out, arrived, all_arrived}
use Rattle.afdx_session.proofs.Readings.{first_rises, streams_with, one_reads, reads_settle}

abbrev pub Early : Arrival → Type 0
Early a = a.frame.stamp < last_second

-- ---- the captures of lanes

arrivals_early : {Z : Type 0} (lanes : List (Lane Z)) (streams : List Stream) → AreLanesOf lanes streams → AllByRecursion Early (arrivals_of (captures_of streams))
arrivals_early [] [] are = tt
arrivals_early [] (s ∷ streams) are = absurd are
arrivals_early (l ∷ lanes) [] are = absurd are
arrivals_early (l ∷ lanes) (s ∷ streams) are =
    all_append Early (arrived s.port s.records) (arrivals_of (captures_of streams))
    (all_arrived Early s.port s.records (first_early l.reader.bytes s.records are.0.read.taken.first))
    (arrivals_early lanes streams are.1)

-- no stamp lies in the last second
pub lanes_early : {Z : Type 0} → ByStampIsOrdered → (lanes : List (Lane Z)) (streams : List Stream) → AreLanesOf lanes streams → AllByRecursion Early (merged_so_far streams)
lanes_early ordered lanes streams are = by_stamp_every ordered Early (arrivals_of (captures_of streams)) (arrivals_early lanes streams are)

pub waiting_rise : {Z : Type 0} (lanes : List (Lane Z)) (streams : List Stream) → AreLanesOf lanes streams → AreQueued streams (map waiting_of lanes) → AllRise (map waiting_of lanes)
waiting_rise [] [] are queued = tt
waiting_rise [] (s ∷ streams) are queued = absurd are
waiting_rise (l ∷ lanes) [] are queued = absurd are
waiting_rise (l ∷ lanes) (s ∷ streams) are queued = (
  rises_back queued.0.gone l.waiting.items (subst Rises queued.0.records (first_rises l.reader.bytes s.records are.0.read.taken.first)),
  waiting_rise lanes streams are.1 queued.1,
)

ports_same : {Z : Type 0} (lanes : List (Lane Z)) (streams : List Stream) → AreLanesOf lanes streams → ports_of (captures_of streams) ≡ map (λ (l : Lane Z). l.port) lanes
ports_same [] [] are = refl
ports_same [] (s ∷ streams) are = absurd are
ports_same (l ∷ lanes) [] are = absurd are
ports_same (l ∷ lanes) (s ∷ streams) are = ap (λ n. n ∷ ports_of (captures_of streams)) are.0.port ∙ ap (λ ns. l.port ∷ ns) (ports_same lanes streams are.1)

all_ids : (n : ℕ) (ps : List PortRow) → AllByRecursion (λ (q : PortRow). n < q.id) ps → AllByRecursion (λ m. n < m) (map (λ (p : PortRow). p.id) ps)
all_ids n [] all = tt
all_ids n (p ∷ ps) all = (all.0, all_ids n ps all.1)

pub ids_ascend : (ps : List PortRow) → table.Rises ps → Ascend (map (λ (p : PortRow). p.id) ps)
ids_ascend [] rises = tt
ids_ascend (p ∷ ps) rises = (all_ids p.id ps rises.0, ids_ascend ps rises.1)

-- the ports rise
pub lanes_ascend : {Z : Type 0} (t : Content) (lanes : List (Lane Z)) (streams : List Stream) → AreOfTable t lanes → AreLanesOf lanes streams → Ascend (ports_of (captures_of streams))
lanes_ascend t lanes streams of are = subst Ascend (sym (ports_same lanes streams are ∙ of.ports)) (ids_ascend t.ports of.formed.ports_rise)

-- ---- how far captures have come

stamps_last : (last : ℕ) (rs : List Record) → last < last_second → AllByRecursion (λ (r : Record). r.stamp < last_second) rs → last_stamp last rs < last_second
stamps_last last [] lt all = lt
stamps_last last (r ∷ rs) lt all = stamps_last r.stamp rs all.0 all.1

abbrev EarlyEnds : List Stream → Type 0
EarlyEnds streams = AllByRecursion (λ (s : Stream). last_of s < last_second) streams

early_ends : {Z : Type 0} (lanes : List (Lane Z)) (streams : List Stream) → AreLanesOf lanes streams → EarlyEnds streams
early_ends [] [] are = tt
early_ends [] (s ∷ streams) are = absurd are
early_ends (l ∷ lanes) [] are = absurd are
early_ends (l ∷ lanes) (s ∷ streams) are =
    (stamps_last 0 s.records (omega arith) (first_early l.reader.bytes s.records are.0.read.taken.first), early_ends lanes streams are.1)

-- an instant that all open captures have reached is early where there is one
reached_early : (h : ℕ) (streams : List Stream) → HaveReached h streams → EarlyEnds streams → (AllEnded streams → ⊥) → h < last_second
reached_early h [] reached ends some = absurd (some tt)
reached_early h (s ∷ streams) reached ends some = elim (cases_Bool s.closed) [
  | inl closed ↦ reached_early h streams reached.1 ends.1 (λ all. some (closed, all))
  | inr still_open ↦ let le = reached.0 still_open in let lt = ends.0 in omega (arith, le, lt)
]

-- so the frontier is no later than the last instant
pub frontier_early : (streams : List Stream) (h : ℕ) → EarlyEnds streams → frontier streams ≡ Some h → h < last_second
frontier_early streams h ends is =
    reached_early h streams (have_reached streams h is) ends (λ all. none (sym is ∙ no_frontier streams all)) where
      none : Some h ≡ None → ⊥
      none e = absurd cc

-- it never goes back
pub come_grows : (streams later : List Stream) → EarlyEnds streams → GoOn streams later → come_to (frontier streams) ≤ come_to (frontier later)
come_grows streams later ends on = by_old (frontier streams) refl where
  by_new : (h : ℕ) (k : Option ℕ) → frontier streams ≡ Some h → frontier later ≡ k → h ≤ come_to k
  by_new h None is next = let lt = frontier_early streams h ends is in omega (arith, lt)
  by_new h (Some k) is next = frontier_above h k later (reached_on h streams later (have_reached streams h is) on) next

  ended_on : (ss ns : List Stream) → AllEnded ss → GoOn ss ns → AllEnded ns
  ended_on [] [] all on = tt
  ended_on [] (n ∷ ns) all on = absurd on
  ended_on (s ∷ ss) [] all on = absurd on
  ended_on (s ∷ ss) (n ∷ ns) all on = ((on.0.ended all.0).1, ended_on ss ns all.1 on.1)

  by_old : (h : Option ℕ) → frontier streams ≡ h → come_to (frontier streams) ≤ come_to (frontier later)
  by_old None is =
      let next = no_frontier later (ended_on streams later (all_ended streams is) on) in
      let here = ap come_to is in
      let there = ap come_to next in
      omega (arith, here, there)
  by_old (Some h) is =
      let le = by_new h (frontier later) is refl in
      let here = ap come_to is in
      omega (arith, here, le)

-- ---- a lane is read

reads_lanes : {Z : Type 0} (lanes : List (Lane Z)) (streams : List Stream) (k : ℕ) (old new : Lane Z) (more : List Record) → AreLanesOf lanes streams → slice_get lanes k ≡ Some old → new.port
    ≡ old.port → Adds old new more
    → AreLanesOf (set lanes k new) (streams_with streams k new more)
reads_lanes [] [] k old new more are at port adds = tt
reads_lanes [] (s ∷ streams) k old new more are at port adds = absurd are
reads_lanes (l ∷ lanes) [] k old new more are at port adds = absurd are
reads_lanes {Z = Z} (l ∷ lanes) (s ∷ streams) zero old new more are at port adds =
    let own : IsLaneOf old s = subst (λ (x : Lane Z). IsLaneOf x s) (same_Some l old at) are.0 in (
      record { port = own.port ∙ sym port; ended = refl; read = adds.read s.records own.read },
      are.1,
    )
reads_lanes (l ∷ lanes) (s ∷ streams) (suc k) old new more are at port adds = (are.0, reads_lanes lanes streams k old new more are.1 at port adds)

on_of : (streams later : List Stream) (waiting more : List Capture) → AllWait streams later waiting more → GoOn streams later
on_of [] [] [] [] wait = tt
on_of [] [] [] (v ∷ more) wait = absurd wait
on_of [] [] (w ∷ waiting) more wait = absurd wait
on_of [] (n ∷ later) waiting more wait = absurd wait
on_of (s ∷ streams) [] waiting more wait = absurd wait
on_of (s ∷ streams) (n ∷ later) [] more wait = absurd wait
on_of (s ∷ streams) (n ∷ later) (w ∷ waiting) [] wait = absurd wait
on_of (s ∷ streams) (n ∷ later) (w ∷ waiting) (v ∷ more) wait = (wait.0.on, on_of streams later waiting more wait.1)

arrived_from : (n port : ℕ) (rs : List Record) → AllFrom n (arrived port rs) → AllByRecursion (λ (r : Record). n ≤ r.stamp) rs
arrived_from n port [] all = tt
arrived_from n port (r ∷ rs) all = (all.0, arrived_from n port rs all.1)

-- what comes and waits comes at an instant or later where all open captures had reached it
wait_from : (n : ℕ) (streams later : List Stream) (waiting more : List Capture) → AllWait streams later waiting more → (AllEnded streams → streams ≡ streams) → HaveReached n streams
    → AllFrom n (arrivals_of waiting) → AllFrom n (arrivals_of more)
wait_from n [] [] [] [] wait some reached all = tt
wait_from n [] [] [] (v ∷ more) wait some reached all = absurd wait
wait_from n [] [] (w ∷ waiting) more wait some reached all = absurd wait
wait_from n [] (s ∷ later) waiting more wait some reached all = absurd wait
wait_from n (s ∷ streams) [] waiting more wait some reached all = absurd wait
wait_from n (s ∷ streams) (t ∷ later) [] more wait some reached all = absurd wait
wait_from n (s ∷ streams) (t ∷ later) (w ∷ waiting) [] wait some reached all = absurd wait
wait_from n (s ∷ streams) (t ∷ later) (w ∷ waiting) (v ∷ more) wait some reached all =
    let At : List Record → Type 0 = λ rs. AllByRecursion (λ (r : Record). n ≤ r.stamp) rs in
    let came : At wait.0.on.more = elim (cases_Bool s.closed) [
      | inl closed ↦ subst At (sym (wait.0.on.ended closed).0) tt
      | inr still_open ↦ records_weaken (last_of s) n wait.0.on.more (reached.0 still_open) (further_of s t wait.0.on)
    ] in
    let was : At w.records = arrived_from n w.port w.records (all_prefix (λ (a : Arrival). n ≤ a.frame.stamp) (arrived w.port w.records) (arrivals_of waiting) all) in
    let here : At v.records = subst At (sym wait.0.queue) (all_append (λ (r : Record). n ≤ r.stamp) w.records wait.0.on.more was came) in
    all_append (λ (a : Arrival). n ≤ a.frame.stamp) (arrived v.port v.records) (arrivals_of more)
    (all_arrived (λ (a : Arrival). n ≤ a.frame.stamp) v.port v.records here)
    (wait_from n streams later waiting more wait.1 (λ all. refl) reached.1 (all_back (λ (a : Arrival). n ≤ a.frame.stamp) (arrived w.port w.records) (arrivals_of waiting) all))

-- whoever is not past the frontier was reached by all open captures
not_past : (n : ℕ) (streams : List Stream) → n ≤ come_to (frontier streams) → HaveReached n streams
not_past n streams le = by_frontier (frontier streams) refl where
  closed_all : (ss : List Stream) → AllEnded ss → HaveReached n ss
  closed_all [] all = tt
  closed_all (s ∷ ss) all = ((λ (o : s.closed ≡ false). absurd (both_ways s.closed o all.0)), closed_all ss all.1)

  by_frontier : (h : Option ℕ) → frontier streams ≡ h → HaveReached n streams
  by_frontier None is = closed_all streams (all_ended streams is)
  by_frontier (Some h) is = let same = ap come_to is in reached-weaken n h streams (omega (arith, le, same)) (have_reached streams h is)

pub get-set : {X : Type 0} (xs : List X) (k j : ℕ) (old new x : X) → slice_get xs k ≡ Some old → slice_get (set xs k new) j ≡ Some x → ((j ≡ k) × (x ≡ new)) ⊎ (slice_get xs j ≡ Some x)
get-set [] k j old new x at is = absurd cc
get-set (y ∷ xs) zero zero old new x at is = inl (refl, sym (same_Some new x is))
get-set (y ∷ xs) zero (suc j) old new x at is = inr is
get-set (y ∷ xs) (suc k) zero old new x at is = inr is
get-set (y ∷ xs) (suc k) (suc j) old new x at is = elim (get-set xs k j old new x at is) [
  | inl same ↦ inl (ap suc same.0, same.1)
  | inr other ↦ inr other
]

-- a lane that is another in nothing that has to do with its output
pub outs_stay : {Z : Type 0} (t : Content) (given : List Arrival) (h : ℕ) (s : State) (lanes : List (Lane Z)) (k : ℕ) (old new : Lane Z) → slice_get lanes k ≡ Some old → new.out.items ≡ old.out.items
    → new.taken ≡ old.taken → AreOut t given h s lanes Every
    → AreOut t given h s (set lanes k new) Every
outs_stay {Z = Z} t given h s lanes k old new at out taken outs place p l in_all is_port is_lane = elim (get-set lanes k place old new l at is_lane) [
  | inr other ↦ outs place p l tt is_port other
  | inl same ↦
      let was : IsOut t given h s p place old = outs place p old tt is_port (ap (slice_get lanes) same.0 ∙ at) in
      subst (λ (x : Lane Z). IsOut t given h s p place x) (sym same.1) (record {
        count = was.count;
        taken = subst (λ n. n ≤ length (text_up_to t given h p)) (sym taken) was.taken;
        left = out ∙ was.left ∙ ap (λ n. drop n (text_up_to t given h p)) (sym taken);
      })
]

pub reads_on : {Z : Type 0} → ByStampIsOrdered → MergedIsAMerge → MergedIsByStampAndPort
    → (t : Content) (lanes : List (Lane Z)) (s : State) (counts : Tally) (k : ℕ) (old new : Lane Z) (more : List Record) → AreOfTable t lanes → slice_get lanes k ≡ Some old → old.ended ≡ false
    → new.port ≡ old.port → new.out.items ≡ old.out.items → new.taken ≡ old.taken → Adds old new more → IsGoing t lanes s counts → IsGoing t (set lanes k new) s counts
reads_on ordered merge sorted t lanes s counts k old new more of at still_open port out taken adds going = record {
  streams = next;
  given = going.given;
  since = going.since;
  lanes_are = reads_lanes lanes going.streams k old new more going.lanes_are at port adds;
  settling = reads_settle ordered merge sorted lanes going.streams going.given k old new more (lanes_ascend t lanes going.streams of going.lanes_are)
      going.lanes_are at still_open port adds going.settling;
  is_given = going.is_given;
  come = going.come;
  later = by_stamp_every ordered At (arrivals_of (map waiting_of (set lanes k new)))
      (wait_from s.run.latest going.streams next (map waiting_of lanes) (map waiting_of (set lanes k new)) wait (λ e. refl) (not_past s.run.latest going.streams going.until)
      (by_stamp_out At (arrivals_of (map waiting_of lanes)) going.later));
  until = let le = going.until in let grows = come_grows going.streams next (early_ends lanes going.streams going.lanes_are)
      (on_of going.streams next (map waiting_of lanes) (map waiting_of (set lanes k new)) wait) in omega (arith, le, grows);
  counts_are = going.counts_are;
  few = going.few;
  outs = outs_stay t going.given going.since s lanes k old new at out taken going.outs;
} where
  At : Arrival → Type 0
  At a = s.run.latest ≤ a.frame.stamp

  next : List Stream
  next = streams_with going.streams k new more

  wait : AllWait going.streams next (map waiting_of lanes) (map waiting_of (set lanes k new))
  wait = one_reads lanes going.streams k old new more going.lanes_are at still_open port adds

-- ---- a record is given

pub same_lanes : {Z : Type 0} (lanes : List (Lane Z)) (streams : List Stream) (k : ℕ) (l : Lane Z) (rest : VecDeque Record Z) → AreLanesOf lanes streams → slice_get lanes k ≡ Some l
    → AreLanesOf (set lanes k (with_waiting rest l)) streams
same_lanes [] [] k l rest are at = tt
same_lanes [] (s ∷ streams) k l rest are at = absurd are
same_lanes (m ∷ lanes) [] k l rest are at = absurd are
same_lanes {Z = Z} (m ∷ lanes) (s ∷ streams) zero l rest are at =
    let own : IsLaneOf l s = subst (λ (x : Lane Z). IsLaneOf x s) (same_Some m l at) are.0 in (
      record {
        port = own.port;
        ended = own.ended;
        read = record { no_fault = own.read.no_fault; taken = own.read.taken; last = own.read.last };
      },
      are.1,
    )
same_lanes (m ∷ lanes) (s ∷ streams) (suc k) l rest are at = (are.0, same_lanes lanes streams k l rest are.1 at)
