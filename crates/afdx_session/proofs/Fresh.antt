-- A session that was fed nothing.
use Rattle.std.proofs.Common.{◌≡◌, ℕ, zero, suc, ◌<◌, ◌≤◌, Bool, true, false, List, [], ◌∷◌, ◌++◌, map, length, drop, take, slice_get, slice_index, Option, Some, None, Ok, Err, refl, ap, sym, ◌∙◌}
use Rattle.std.proofs.Common.{arith, inl, inr, subst}
use Rattle.std.specs.Prelude.{Result}
use Rattle.std.specs.List.{AllByRecursion}
use Rattle.afdx_pcap.specs.declared.fault.PcapFault.{PcapFault}
use Rattle.afdx_pcap.specs.declared.fault.PcapFault.TheVariants.{NoHeader}
use Rattle.afdx_pcap.specs.declared.format.Format.{Format}
use Rattle.afdx_pcap.specs.Record.{Record}
use Rattle.afdx_pcap.specs.Capture.{header_of, Holds}
use Rattle.afdx_pcap.specs.Fault.{IsFault, IsEarlyFault, is_cut}
use Rattle.afdx_pcap.specs.Reading.{Reading, NoNext, IsSound}
use Rattle.afdx_pcap.specs.Text.{capture_text}
use Rattle.afdx_table.specs.declared.rows.PortRow.{PortRow}
use Rattle.afdx_table.specs.Content.{Content}
use Rattle.afdx_table.specs.WellFormed.{IsWellFormed}
use Rattle.afdx_load.specs.Accepted.{IsAccepted}
use Rattle.afdx_core.specs.Rows.{feed_of}
use Rattle.afdx_core.specs.State.{fresh_state}
use Rattle.afdx_core.specs.Merge.{Arrival, arrivals_of, by_stamp}
use Rattle.afdx_count.specs.Tally.{fresh}
use Rattle.afdx_count.specs.Inner.Laws.{StartsWithNone}
use Rattle.afdx_session.specs.declared.lane.Lane.{Lane}
use Rattle.afdx_session.specs.declared.machine.Machine.{Machine}
use Rattle.afdx_session.specs.Output.{written}
use Rattle.afdx_session.specs.Streams.{Stream, captures_of, frontier, least, sent_up_to}
use Rattle.afdx_session.specs.Inner.Settled.{AreQueued, IsGiven}
use Rattle.afdx_session.specs.Session.{fresh_intake, fresh_session}
use Rattle.afdx_session.specs.Inner.Lanes.{intake_of, waiting_of, HasReadAll}
use Rattle.afdx_session.specs.Inner.Kept.{IsLaneOf, AreLanesOf, come_to, text_up_to, IsGoing, IsRunning, IsMarked}
use Rattle.afdx_session.specs.Inner.View.{IsFreshLane, AreFreshLanes, intakes_of, seen_of, IsShown, IsKeptMachine}
use Rattle.afdx_session.proofs.Shown.{lanes_are_streams}

-- ---- no bytes

pub no_record : (n : ℕ) → NoNext [] n
no_record n r next = by next.0 next.2 where
  by : (earlier : List Record) → Holds [] (earlier ++ r ∷ []) next.1 → ⊥
  by [] held = let le = held.records.0.whole in absurd (omega (arith, le))
  by (e ∷ earlier) held = let le = held.records.0.whole in absurd (omega (arith, le))

no_early_fault : (fault : PcapFault) → IsEarlyFault [] fault → ⊥
unfolding header_of
no_early_fault fault early = by early.0 where
  none : Result Format PcapFault
  none = Err NoHeader

  cut : (e : PcapFault) → none ≡ Err e → is_cut e ≡ false → ⊥
  cut e same is = absurd cc

  by : IsFault [] fault → ⊥
  by (inl same) = cut fault same early.1
  by (inr ok) = absurd (differ ok.1) where
    differ : {f : Format} → Err NoHeader ≡ Ok f → ⊥
    differ e = absurd cc

-- ---- the lanes

abbrev pub fresh_stream : PortRow → Stream
fresh_stream p = record { port = p.id; records = []; closed = false }

fresh_lane : {Z : Type 0} (p : PortRow) (l : Lane Z) → IsFreshLane p.id l → IsLaneOf l (fresh_stream p)
fresh_lane p l fresh = record {
  port = sym fresh.port_is;
  ended = sym fresh.ended;
  read = record {
    no_fault = ap (λ (r : Reading). r.fault) fresh.reader;
    taken = record { first = tt; count = ap (λ (r : Reading). r.given) (sym fresh.reader) };
    last = fresh.last;
  };
}

fresh_read : {Z : Type 0} (ports : List PortRow) (lanes : List (Lane Z)) → AreFreshLanes ports lanes → AllByRecursion HasReadAll lanes
fresh_read [] [] fresh = tt
fresh_read [] (l ∷ lanes) fresh = absurd fresh
fresh_read (p ∷ ports) [] fresh = absurd fresh
fresh_read (p ∷ ports) (l ∷ lanes) fresh = (
  record {
    none_left = subst (λ (r : Reading). NoNext r.bytes r.given) (sym fresh.0.reader) (no_record 0);
    sound = subst (λ (r : Reading). IsSound r.bytes r.given r.closed) (sym fresh.0.reader) no_early_fault;
    ended = fresh.0.ended ∙ ap (λ (r : Reading). r.closed) (sym fresh.0.reader);
  },
  fresh_read ports lanes fresh.1,
)

fresh_lanes : {Z : Type 0} (ports : List PortRow) (lanes : List (Lane Z)) → AreFreshLanes ports lanes → AreLanesOf lanes (map fresh_stream ports)
fresh_lanes [] [] fresh = tt
fresh_lanes [] (l ∷ lanes) fresh = absurd fresh
fresh_lanes (p ∷ ports) [] fresh = absurd fresh
fresh_lanes (p ∷ ports) (l ∷ lanes) fresh = (fresh_lane p l fresh.0, fresh_lanes ports lanes fresh.1)

fresh_ports : {Z : Type 0} (ports : List PortRow) (lanes : List (Lane Z)) → AreFreshLanes ports lanes → map (λ (l : Lane Z). l.port) lanes ≡ map (λ (p : PortRow). p.id) ports
fresh_ports [] [] fresh = refl
fresh_ports [] (l ∷ lanes) fresh = absurd fresh
fresh_ports (p ∷ ports) [] fresh = absurd fresh
fresh_ports {Z = Z} (p ∷ ports) (l ∷ lanes) fresh = ap (λ n. n ∷ map (λ (x : Lane Z). x.port) lanes) fresh.0.port_is ∙ ap (λ ns. p.id ∷ ns) (fresh_ports ports lanes fresh.1)

fresh_queued : {Z : Type 0} (ports : List PortRow) (lanes : List (Lane Z)) → AreFreshLanes ports lanes → AreQueued (map fresh_stream ports) (map waiting_of lanes)
fresh_queued [] [] fresh = tt
fresh_queued [] (l ∷ lanes) fresh = absurd fresh
fresh_queued (p ∷ ports) [] fresh = absurd fresh
fresh_queued (p ∷ ports) (l ∷ lanes) fresh = (record { port = fresh.0.port_is; gone = []; records = sym fresh.0.waiting }, fresh_queued ports lanes fresh.1)

none_arrived : (ports : List PortRow) → arrivals_of (captures_of (map fresh_stream ports)) ≡ []
none_arrived [] = refl
none_arrived (p ∷ ports) = none_arrived ports

none_wait : {Z : Type 0} (ports : List PortRow) (lanes : List (Lane Z)) → AreFreshLanes ports lanes → arrivals_of (map waiting_of lanes) ≡ []
none_wait [] [] fresh = refl
none_wait [] (l ∷ lanes) fresh = absurd fresh
none_wait (p ∷ ports) [] fresh = absurd fresh
none_wait (p ∷ ports) (l ∷ lanes) fresh =
    ap (λ rs. map {B = Arrival} (λ (r : Record). record { port = l.port; frame = r }) rs ++ arrivals_of (map waiting_of lanes)) fresh.0.waiting
    ∙ none_wait ports lanes fresh.1

fresh_marked : {Z : Type 0} (ports : List PortRow) (lanes : List (Lane Z)) → AreFreshLanes ports lanes → AllByRecursion (IsMarked false) lanes
fresh_marked [] [] fresh = tt
fresh_marked [] (l ∷ lanes) fresh = absurd fresh
fresh_marked (p ∷ ports) [] fresh = absurd fresh
fresh_marked (p ∷ ports) (l ∷ lanes) fresh = (
  record { undone = fresh.0.undone; closed = fresh.0.closed ∙ ap (λ (r : Reading). r.closed) (sym fresh.0.reader); ready = fresh.0.ready },
  fresh_marked ports lanes fresh.1,
)

fresh_at : {Z : Type 0} (ports : List PortRow) (lanes : List (Lane Z)) (k : ℕ) (l : Lane Z) → AreFreshLanes ports lanes → slice_get lanes k ≡ Some l → (port : ℕ) × IsFreshLane port l
fresh_at [] [] k l fresh at = absurd cc
fresh_at [] (m ∷ lanes) k l fresh at = absurd fresh
fresh_at (p ∷ ports) [] k l fresh at = absurd cc
fresh_at {Z = Z} (p ∷ ports) (m ∷ lanes) zero l fresh at = (p.id, subst (λ (x : Lane Z). IsFreshLane p.id x) (same at) fresh.0) where
  same : Some m ≡ Some l → m ≡ l
  same e = cc
fresh_at (p ∷ ports) (m ∷ lanes) (suc k) l fresh at = fresh_at ports lanes k l fresh.1 at

fresh_frontier : (ports : List PortRow) → 0 < length (map fresh_stream ports) → 0 ≡ come_to (frontier (map fresh_stream ports))
fresh_frontier [] some = absurd (omega (arith, some))
fresh_frontier (p ∷ ports) some = by (frontier (map fresh_stream ports)) where
  by : (rest : Option ℕ) → 0 ≡ least 0 rest
  by None = refl
  by (Some m) = omega arith

fresh_count : {Z : Type 0} (ports : List PortRow) (lanes : List (Lane Z)) → AreFreshLanes ports lanes → length lanes ≡ length (map fresh_stream ports)
fresh_count [] [] fresh = refl
fresh_count [] (l ∷ lanes) fresh = absurd fresh
fresh_count (p ∷ ports) [] fresh = absurd fresh
fresh_count (p ∷ ports) (l ∷ lanes) fresh = ap suc (fresh_count ports lanes fresh.1)

-- ---- the switch

none_sent : (t : Content) (p : PortRow) → sent_up_to t [] (Some 0) p ≡ []
unfolding sent_up_to feed_of
none_sent t p = refl

zeros : (ports : List PortRow) (k : ℕ) → slice_index (map (λ (p : PortRow). 0) ports) k ≡ 0
zeros [] k = refl
zeros (p ∷ ports) zero = refl
zeros (p ∷ ports) (suc k) = zeros ports k

fresh_given : (accepted keeps : Bool) (t : Content) → IsGiven t [] (fresh_state accepted keeps t)
fresh_given accepted keeps t = record { table = refl; rows = refl; still_open = refl; frames = λ i frame lt held. absurd (omega (arith, lt)) }

fresh_going : {Z : Type 0} → StartsWithNone → (accepted keeps : Bool) (t : Content) (lanes : List (Lane Z)) → AreFreshLanes t.ports lanes → IsGoing t lanes (fresh_state accepted keeps t) (fresh t)
fresh_going starts accepted keeps t lanes fresh = record {
  streams = map fresh_stream t.ports;
  given = [];
  since = 0;
  lanes_are = fresh_lanes t.ports lanes fresh;
  settling = record {
    queued = fresh_queued t.ports lanes fresh;
    whole = ap by_stamp (none_arrived t.ports ∙ sym (none_wait t.ports lanes fresh));
    settled = tt;
  };
  is_given = fresh_given accepted keeps t;
  come = omega arith;
  later = subst (λ xs. AllByRecursion (λ (a : Arrival). 0 ≤ a.frame.stamp) (by_stamp xs)) (sym (none_wait t.ports lanes fresh)) tt;
  until = omega arith;
  counts_are = starts t;
  few = omega arith;
  outs = λ place p l in_all is_port is_lane.
      let own = fresh_at t.ports lanes place l fresh is_lane in
      let taken = own.1.taken in
      record {
        count = zeros t.ports place ∙ ap length (sym (none_sent t p));
        taken = omega (arith, taken);
        left = own.1.out ∙ ap (λ sent. capture_text (map (written []) sent)) (sym (none_sent t p)) ∙ ap (λ n. drop n (text_up_to t [] 0 p)) (sym taken);
      };
}

fresh_running : {Z : Type 0} → StartsWithNone → (accepted keeps : Bool) (t : Content) (lanes : List (Lane Z)) → AreFreshLanes t.ports lanes → IsRunning t lanes (fresh_state accepted keeps t) (fresh t)
unfolding fresh_going
fresh_running starts accepted keeps t lanes fresh = record {
  going = fresh_going starts accepted keeps t lanes fresh;
  out = λ some. fresh_frontier t.ports (subst (λ n. 0 < n) (fresh_count t.ports lanes fresh) some);
}

fresh_shown : {Z : Type 0} (t : Content) (lanes : List (Lane Z)) → AreFreshLanes t.ports lanes → IsShown t false lanes
fresh_shown t lanes fresh = record {
  streams = map fresh_stream t.ports;
  are = lanes_are_streams false lanes (map fresh_stream t.ports) (fresh_marked t.ports lanes fresh) (fresh_read t.ports lanes fresh) (fresh_lanes t.ports lanes fresh);
  each = λ place p l is_port is_lane.
      let own = fresh_at t.ports lanes place l fresh is_lane in
      let taken = own.1.taken in
      let ready = own.1.ready in
      record {
        taken = omega (arith, taken);
        prefix = ap (λ n. take n l.out.items) ready ∙ ap (λ n. drop n []) (sym taken);
        ready = omega (arith, ready);
        bound = omega (arith, taken, ready);
      };
}

abbrev none_handed : List PortRow → List ℕ
none_handed ports = map (λ (p : PortRow). 0) ports

length-zeros : (ports : List PortRow) → length (none_handed ports) ≡ length ports
length-zeros [] = refl
length-zeros (p ∷ ports) = ap suc (length-zeros ports)

-- what is true of each session is true of it
pub fresh_kept : {Z : Type 0} → StartsWithNone → (accepted keeps : Bool) (t : Content) (m : Machine Z) → IsWellFormed t → (accepted ≡ true → IsAccepted t)
    → m.switch ≡ fresh_state accepted keeps t → m.counts
    ≡ fresh t → AreFreshLanes t.ports m.lanes.items
    → IsKeptMachine m false false
fresh_kept starts accepted keeps t m formed is_accepted switch counts fresh = record {
  of = rw switch (record { formed = formed; ports = fresh_ports t.ports m.lanes.items fresh });
  handed = rw switch (length-zeros t.ports);
  accepted = rw switch is_accepted;
  shown = rw switch (fresh_shown t m.lanes.items fresh);
  ready = λ not_failed. record {
    running = rw (switch, counts) (fresh_running starts accepted keeps t m.lanes.items fresh);
    read = fresh_read t.ports m.lanes.items fresh;
    marked = fresh_marked t.ports m.lanes.items fresh;
  };
}

fresh_intakes : {Z : Type 0} (ports : List PortRow) (lanes : List (Lane Z)) → AreFreshLanes ports lanes → intakes_of lanes ≡ map fresh_intake ports
fresh_intakes [] [] fresh = refl
fresh_intakes [] (l ∷ lanes) fresh = absurd fresh
fresh_intakes (p ∷ ports) [] fresh = absurd fresh
fresh_intakes (p ∷ ports) (l ∷ lanes) fresh = ap (λ i. i ∷ intakes_of lanes) (own fresh.0) ∙ ap (λ is. fresh_intake p ∷ is) (fresh_intakes ports lanes fresh.1) where
  own : IsFreshLane p.id l → intake_of l ≡ fresh_intake p
  own f = rw (f.port_is, f.reader, f.undone, f.closed, f.taken) refl

pub fresh_seen : {Z : Type 0} (accepted keeps : Bool) (t : Content) (m : Machine Z) → m.switch ≡ fresh_state accepted keeps t → AreFreshLanes t.ports m.lanes.items → seen_of m false false
    ≡ fresh_session accepted t
fresh_seen accepted keeps t m switch fresh = rw (switch, fresh_intakes t.ports m.lanes.items fresh) refl
