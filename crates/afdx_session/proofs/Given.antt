-- A record is given to the switch, and the switch comes to the frontier.
use Rattle.std.proofs.Common.{◌≡◌, ℕ, zero, suc, ◌<◌, ◌≤◌, ◌^◌, List, [], ◌∷◌, ◌++◌, map, length, slice_get, slice_index, drop, Option, Some, None, refl, ap, sym, ◌∙◌, arith, inl, inr, subst}
use Rattle.std.proofs.Common.{nat_lt, true, false, cond}
use Rattle.std.specs.Prelude.{is_none, ◌⊎◌}
use Rattle.std.specs.List.{AllByRecursion}
use Rattle.std.specs.Option.{option_map}
use Rattle.std.proofs.lemmas.List.{length-append, length-map}
use Rattle.std.proofs.lemmas.Bool.{le-ltb}
use Rattle.afdx_units.specs.Time.{last_second, stamp_end, last_instant}
use Rattle.afdx_pcap.specs.Record.{Record}
use Rattle.afdx_pcap.specs.Text.{capture_text}
use Rattle.afdx_table.specs.declared.rows.PortRow.{PortRow}
use Rattle.afdx_table.specs.Content.{Content, port_row}
use Rattle.afdx_table.specs.WellFormed.{IsWellFormed}
use Rattle.afdx_port.specs.Inner.Admission.{EarlierEventsStayAdmitted}
use Rattle.afdx_port.specs.Inner.Order.{ReachesInOrder}
use Rattle.afdx_core.specs.declared.step.Row.{Row}
use Rattle.afdx_core.specs.Step.{Step}
use Rattle.afdx_core.specs.Rows.{row_of}
use Rattle.afdx_core.specs.State.{Run, State, refusal_of, step_of, after_advance}
use Rattle.afdx_core.specs.Held.{Keeps, IsTaken}
use Rattle.afdx_core.specs.Merge.{Arrival, Capture, merged, arrivals_of}
use Rattle.afdx_core.specs.Inner.Merge.{AreInOrder, ByStampIsOrdered}
use Rattle.afdx_count.specs.Tally.{Tally, noted}
use Rattle.afdx_count.specs.Run.{counts_so_far}
use Rattle.afdx_count.specs.Inner.Laws.{NoteCountsOneMore}
use Rattle.afdx_session.specs.declared.lane.Lane.{Lane}
use Rattle.afdx_session.specs.Output.{rows_of, written}
use Rattle.afdx_session.specs.Streams.{Stream, frontier}
use Rattle.afdx_session.specs.Inner.Settled.{first_place, without, IsGiven, HeadFrom, AllRise, IsPast, IsWithin}
use Rattle.afdx_earliest.specs.Instants.{IsFirstUpTo}
use Rattle.afdx_session.specs.Inner.Lanes.{waiting_of, limit_at, heads_of, with_waiting, IsFirstOf, Goes, NoneGoes}
use Rattle.afdx_session.specs.Inner.Kept.{AreLanesOf, AreOfTable, come_to, text_up_to, IsOut, IsGoing, HasCome}
use Rattle.afdx_session.proofs.Joining.{AllFrom, frames-from}
use Rattle.afdx_session.proofs.Settling.{all_back}
use Rattle.afdx_session.proofs.Gathering.{Known, all_known}
use Rattle.afdx_session.proofs.Numbered.{all_slice_get}
use Rattle.afdx_session.proofs.Giving.{first_goes, limit_frontier, rest_from_frontier, merged_from}
use Rattle.afdx_session.proofs.Later.{same_sent, same_bytes}
use Rattle.std.proofs.lemmas.List.{map-set}
use Rattle.std.proofs.lemmas.Option.{slice_get-map}
use Rattle.afdx_session.proofs.Firsts.{limit_is, is_past, first_comes, none_waits, lane_goes}
use Rattle.afdx_session.proofs.Drawing.{gives, comes}
use Rattle.afdx_session.proofs.Going.{Early, lanes_early, waiting_rise, lanes_ascend, same_lanes, outs_stay}

-- ---- the output so far

pub same_text : EarlierEventsStayAdmitted → ReachesInOrder → (t : Content) (given more : List Arrival) (h : ℕ) (p : PortRow) → AllFrom h more → text_up_to t (given ++ more) h p
    ≡ text_up_to t given h p
same_text stay reaches t given more h p later =
    ap capture_text (ap (map (written (given ++ more))) (same_sent stay reaches t given more h p later) ∙ same_bytes t given more (Some h) p)

-- it stays where more is given that comes no sooner
out_stays : {Z : Type 0} → EarlierEventsStayAdmitted → ReachesInOrder → (t : Content) (given more : List Arrival) (h : ℕ) (s next : State) (p : PortRow) (place : ℕ) (l : Lane Z) → AllFrom h more
    → next.run.handed ≡ s.run.handed
    → IsOut t given h s p place l → IsOut t (given ++ more) h next p place l
out_stays stay reaches t given more h s next p place l later handed out =
    let same = same_text stay reaches t given more h p later in
    record {
      count = ap (λ (ns : List ℕ). slice_index ns place) handed ∙ out.count ∙ ap length (sym (same_sent stay reaches t given more h p later));
      taken = subst (λ (text : List ℕ). l.taken ≤ length text) (sym same) out.taken;
      left = out.left ∙ ap (drop l.taken) (sym same);
    }

-- ---- a record goes

-- it is the next of what waits
goes_next : {Z : Type 0} → ByStampIsOrdered → (old new : List (Lane Z)) (port : ℕ) (frame : Record) (streams : List Stream) (given : List Arrival) (t : Content) (s : State) (counts : Tally)
    (going : IsGoing t old s counts)
    → Goes (limit_at old) old new port frame
    → merged (map waiting_of old) ≡ record { port = port; frame = frame } ∷ merged (map waiting_of new)
goes_next ordered old new port frame streams given t s counts going goes =
    let w = waiting_of goes.lane in
    let rise = waiting_rise old going.streams going.lanes_are going.settling.queued in
    let first = first_goes ordered (map waiting_of old) goes.place w frame goes.rest.items (slice_get-map waiting_of old goes.place ∙ ap (option_map waiting_of) goes.at) goes.head
    (first_comes old goes.place frame.stamp goes.first) rise in
    let queues : without (map waiting_of old) goes.place w goes.rest.items ≡ map waiting_of new =
    sym (ap (map waiting_of) goes.lanes ∙ map-set waiting_of old goes.place (with_waiting goes.rest goes.lane)) in
    first
    ∙ ap (λ ws. record { port = w.port; frame = frame } ∷ merged ws) queues
    ∙ ap {B = List Arrival} (λ n. record { port = n; frame = frame } ∷ merged (map waiting_of new)) (sym goes.port_is)

-- what comes where the switch is
pub record Arrives {Z : Type 0} (t : Content) (old new : List (Lane Z)) (s : State) (counts : Tally) (port : ℕ) (frame : Record) : Type 0 where
  pub going : IsGoing t old s counts
  pub goes : Goes (limit_at old) old new port frame
  pub next : merged (map waiting_of old) ≡ record { port = port; frame = frame } ∷ merged (map waiting_of new)
  pub early : frame.stamp < last_second
  pub latest : s.run.latest ≤ frame.stamp
  pub until : frame.stamp ≤ come_to (frontier going.streams)
  pub after : AllFrom frame.stamp (merged (map waiting_of new))

pub arrives : {Z : Type 0} → ByStampIsOrdered → (t : Content) (old new : List (Lane Z)) (s : State) (counts : Tally) (port : ℕ) (frame : Record) → Goes (limit_at old) old new port frame
    → IsGoing t old s counts → Arrives t old new s counts port frame
arrives {Z} ordered t old new s counts port frame goes going = record {
  going = going;
  goes = goes;
  next = next;
  early = early;
  latest = (subst (AllFrom s.run.latest) next going.later).0;
  until = by_limit (limit_at old) refl goes.within;
  after = frames-from frame.stamp (merged (map waiting_of new)) (subst AreInOrder next (ordered (arrivals_of (map waiting_of old))).in_order).0;
} where
  next : merged (map waiting_of old) ≡ record { port = port; frame = frame } ∷ merged (map waiting_of new)
  next = goes_next ordered old new port frame going.streams going.given t s counts going goes

  early : frame.stamp < last_second
  early =
      let all : AllByRecursion Early (going.given ++ merged (map waiting_of old)) = subst (AllByRecursion Early) going.settling.whole (lanes_early ordered old going.streams going.lanes_are) in
      (subst (AllByRecursion Early) next (all_back Early going.given (merged (map waiting_of old)) all)).0

  at_frontier : option_map (λ (p : ℕ × ℕ). p.0) (limit_at old) ≡ frontier going.streams
  at_frontier = ap (option_map (λ (p : ℕ × ℕ). p.0)) (limit_is old going.streams going.lanes_are) ∙ limit_frontier going.streams

  by_limit : (p : Option (ℕ × ℕ)) → limit_at old ≡ p → IsWithin (limit_at old) frame.stamp port → frame.stamp ≤ come_to (frontier going.streams)
  by_limit None is within =
      let here = ap come_to (sym at_frontier ∙ ap (option_map (λ (q : ℕ × ℕ). q.0)) is) in
      omega (arith, early, here)
  by_limit (Some p) is within =
      at (subst (λ o. IsWithin o frame.stamp port) is within) (ap come_to (sym at_frontier ∙ ap (option_map (λ (q : ℕ × ℕ). q.0)) is)) where
        at : (frame.stamp < p.0) ⊎ ((frame.stamp ≡ p.0) × (port ≤ p.1)) → come_to (frontier going.streams) ≡ p.0 → frame.stamp ≤ come_to (frontier going.streams)
        at (inl lt) here = omega (arith, lt, here)
        at (inr same) here = let e = same.0 in omega (arith, e, here)

-- it is of a port of the table
known : {Z : Type 0} (t : Content) (lanes : List (Lane Z)) (k : ℕ) (l : Lane Z) → AreOfTable t lanes → slice_get lanes k ≡ Some l → is_none (port_row t l.port) ≡ false
known {Z = Z} t lanes k l of at =
    let ports = subst (AllByRecursion (Known t.ports)) (sym of.ports) (all_known t.ports) in
    all_slice_get (Known t.ports) (map (λ (m : Lane Z). m.port) lanes) k l.port ports (slice_get-map (λ (m : Lane Z). m.port) lanes k ∙ ap (option_map (λ (m : Lane Z). m.port)) at)

-- the switch takes it
pub gives_on : {Z : Type 0} → ByStampIsOrdered → EarlierEventsStayAdmitted → ReachesInOrder → NoteCountsOneMore
    → (t : Content) (old new : List (Lane Z)) (s next : State) (counts after : Tally) (port : ℕ) (frame : Record) (step : Step) → AreOfTable t old → step.number < 2 ^ 64
    → Arrives t old new s counts port frame → IsTaken s next (row_of s.run.table port frame) frame step → after ≡ noted step counts → IsGoing t new next after
gives_on ordered stay reaches law t old new s next counts after port frame step of small arrives taken counted = record {
  streams = going.streams;
  given = going.given ++ a ∷ [];
  since = going.since;
  lanes_are = subst (λ ls. AreLanesOf ls going.streams) (sym goes.lanes) (same_lanes old going.streams goes.place goes.lane goes.rest going.lanes_are goes.at);
  settling = lane_goes ordered going.streams going.given old new port frame (lanes_ascend t old going.streams of going.lanes_are) (waiting_rise old going.streams going.lanes_are going.settling.queued)
      going.lanes_are goes going.settling;
  is_given = gives t going.given a s next step going.is_given taken;
  come = omega (arith, since, arrives.latest, latest);
  later = subst (λ n. AllFrom n (merged (map waiting_of new))) (sym latest) arrives.after;
  until = subst (λ n. n ≤ come_to (frontier going.streams)) (sym latest) arrives.until;
  counts_are = counted ∙ ap (λ (h : Step). noted h counts) taken.step_is
      ∙ ap (noted (step_of s.run row)) (going.counts_are ∙ ap (λ (c : Content). counts_so_far c (rows_of t going.given)) (sym going.is_given.table)
      ∙ ap (counts_so_far s.run.table) (sym going.is_given.rows))
      ∙ law s.run row (subst IsWellFormed (sym going.is_given.table) of.formed)
      ∙ ap (λ (r : Run). counts_so_far r.table r.rows) (sym taken.run)
      ∙ ap (λ (c : Content). counts_so_far c next.run.rows) next_given.table
      ∙ ap (counts_so_far t) next_given.rows;
  few = let count = ap (λ (h : Step). h.number) taken.step_is in let long = ap length going.is_given.rows ∙ length-map going.given (λ (b : Arrival). row_of t b.port b.frame) in
      let all = length-append going.given (a ∷ []) in omega (arith, small, count, long, all);
  outs = λ place p l in_all is_port is_lane.
      out_stays stay reaches t going.given (a ∷ []) going.since s next p place l (omega (arith, since, arrives.latest), tt) (ap (λ (r : Run). r.handed) taken.run)
      (outs_stay t going.given going.since s old goes.place goes.lane (with_waiting goes.rest goes.lane) goes.at refl refl going.outs place p l tt is_port
      (ap (λ ls. slice_get ls place) (sym goes.lanes) ∙ is_lane));
} where
  going : IsGoing t old s counts
  going = arrives.going

  goes : Goes (limit_at old) old new port frame
  goes = arrives.goes

  a : Arrival
  a = record { port = port; frame = frame }

  row : Row
  row = row_of s.run.table port frame

  since : going.since ≤ s.run.latest
  since = going.come

  latest : next.run.latest ≡ frame.stamp
  latest = ap (λ (r : Run). r.latest) taken.run

  next_given : IsGiven t (going.given ++ a ∷ []) next
  next_given = gives t going.given a s next step going.is_given taken

-- it refuses it for memory alone
pub none_else : {Z : Type 0} (t : Content) (old new : List (Lane Z)) (s : State) (counts : Tally) (port : ℕ) (frame : Record) → AreOfTable t old → Arrives t old new s counts port frame
    → refusal_of s.run port frame.stamp ≡ None
none_else t old new s counts port frame of arrives =
    let goes = arrives.goes in
    let is_known : is_none (port_row s.run.table port) ≡ false =
    ap (λ (c : Content). is_none (port_row c port)) arrives.going.is_given.table ∙ ap (λ n. is_none (port_row t n)) goes.port_is ∙ known t old goes.place goes.lane of goes.at in
    let in_order : nat_lt frame.stamp s.run.latest ≡ false = le-ltb _ _ arrives.latest in
    rw (is_known, in_order) refl

-- ---- the switch comes to the frontier

-- the instant that it comes to
pub frontier_is : {Z : Type 0} (lanes : List (Lane Z)) (streams : List Stream) → AreLanesOf lanes streams → option_map (λ (p : ℕ × ℕ). p.0) (limit_at lanes) ≡ frontier streams
frontier_is lanes streams are = ap (option_map (λ (p : ℕ × ℕ). p.0)) (limit_is lanes streams are) ∙ limit_frontier streams

pub lane_at : {Z : Type 0} (ls : List (Lane Z)) (k : ℕ) → k < length ls → (l : Lane Z) × (slice_get ls k ≡ Some l)
lane_at [] k lt = absurd (omega (arith, lt))
lane_at (l ∷ ls) zero lt = (l, refl)
lane_at (l ∷ ls) (suc k) lt = lane_at ls k (omega (arith, lt))

empty_heads : (n : ℕ) (ws : List Capture) → AllByRecursion (λ (w : Capture). w.records ≡ []) ws → AllByRecursion (λ (w : Capture). HeadFrom n w.records) ws
empty_heads n [] all = tt
empty_heads n (w ∷ ws) all = (subst (HeadFrom n) (sym all.0) tt, empty_heads n ws all.1)

-- nothing goes any more: what waits comes at the frontier or later
pub rest_waits : {Z : Type 0} → ByStampIsOrdered → (t : Content) (lanes : List (Lane Z)) (s : State) (counts : Tally) (first : Option (ℕ × ℕ)) (going : IsGoing t lanes s counts)
    → NoneGoes (limit_at lanes) lanes first → AllFrom (come_to (frontier going.streams)) (merged (map waiting_of lanes))
rest_waits {Z = Z} ordered t lanes s counts first going none = by_first first none.is none.past where
  waiting : List Capture
  waiting = map waiting_of lanes

  n : ℕ
  n = come_to (frontier going.streams)

  rise : AllRise waiting
  rise = waiting_rise lanes going.streams going.lanes_are going.settling.queued

  by_limit : (x : ℕ × ℕ) (l : Lane Z) (p : Option (ℕ × ℕ)) → limit_at lanes ≡ p → IsFirstUpTo (heads_of lanes) (length lanes) x.0 x.1 → (IsWithin (limit_at lanes) x.1 l.port → ⊥)
      → AllFrom n (merged waiting)
  by_limit x l None same is out = absurd (out (subst (λ o. IsWithin o x.1 l.port) (sym same) tt))
  by_limit x l (Some p) same is out =
      let at_frontier : frontier going.streams ≡ Some p.0 = sym (frontier_is lanes going.streams going.lanes_are) ∙ ap (option_map (λ (q : ℕ × ℕ). q.0)) same in
      let past = subst (λ o. IsPast o x.1) (limit_is lanes going.streams going.lanes_are) (is_past (limit_at lanes) x.1 l.port out) in
      subst (λ m. AllFrom m (merged waiting)) (sym (ap come_to at_frontier))
      (rest_from_frontier ordered going.streams waiting x.0 x.1 p.0 rise (first_comes lanes x.0 x.1 is) past at_frontier)

  by_first : (found : Option (ℕ × ℕ)) → IsFirstOf lanes found → ((place stamp : ℕ) (lane : Lane Z) → found ≡ Some (place, stamp) → slice_get lanes place ≡ Some lane
      → IsWithin (limit_at lanes) stamp lane.port → ⊥)
      → AllFrom n (merged waiting)
  by_first None is past = merged_from ordered n waiting (empty_heads n waiting (none_waits lanes is)) rise
  by_first (Some x) is past =
      let at = lane_at lanes x.0 is.within in
      by_limit x at.0 (limit_at lanes) refl is (past x.0 x.1 at.0 refl at.1)

-- the switch comes to an instant that is not past the frontier, and no later than all that waits
pub advances : {Z : Type 0} (t : Content) (lanes : List (Lane Z)) (s next : State) (counts : Tally) (to : ℕ) (going : IsGoing t lanes s counts) → s.run.latest ≤ to
    → AllFrom to (merged (map waiting_of lanes)) → to ≤ come_to (frontier going.streams) → next.run ≡ after_advance to s.run → Keeps s next
    → (on : IsGoing t lanes next counts) × (on.streams ≡ going.streams) × (next.run.latest ≡ to)
advances {Z} t lanes s next counts to going onward later until run keeps = (
  record {
    streams = going.streams;
    given = going.given;
    since = going.since;
    lanes_are = going.lanes_are;
    settling = going.settling;
    is_given = (comes t going.given to s next going.is_given run keeps).is_given;
    come = let since = going.come in omega (arith, since, onward, at);
    later = subst (λ n. AllFrom n (merged (map waiting_of lanes))) (sym at) later;
    until = omega (arith, at, until);
    counts_are = going.counts_are;
    few = going.few;
    outs = λ place p l in_all is_port is_lane.
        let out = going.outs place p l tt is_port is_lane in
        record { count = ap (λ (r : Run). slice_index r.handed place) run ∙ out.count; taken = out.taken; left = out.left };
  },
  refl,
  at,
) where
  at : next.run.latest ≡ to
  at = ap (λ (r : Run). r.latest) run

-- the switch comes to the frontier
pub comes_on : {Z : Type 0} → ByStampIsOrdered → (t : Content) (lanes : List (Lane Z)) (s next : State) (counts : Tally) (first : Option (ℕ × ℕ)) (to : ℕ) (going : IsGoing t lanes s counts)
    → NoneGoes (limit_at lanes) lanes first
    → to ≡ come_to (option_map (λ (p : ℕ × ℕ). p.0) (limit_at lanes)) → next.run ≡ after_advance to s.run → Keeps s next → HasCome t lanes next counts
comes_on {Z} ordered t lanes s next counts first to going none to_is run keeps = record { going = on.0; at = on.2 ∙ at ∙ ap (λ streams. come_to (frontier streams)) (sym on.1) } where
  at : to ≡ come_to (frontier going.streams)
  at = to_is ∙ ap come_to (frontier_is lanes going.streams going.lanes_are)

  on : (on : IsGoing t lanes next counts) × (on.streams ≡ going.streams) × (next.run.latest ≡ to)
  on = advances t lanes s next counts to going (let until = going.until in omega (arith, until, at))
      (subst (λ n. AllFrom n (merged (map waiting_of lanes))) (sym at) (rest_waits ordered t lanes s counts first going none)) (omega (arith, at)) run keeps

-- where all captures have ended and nothing waits, it may come to any instant
pub comes_anywhere : {Z : Type 0} → ByStampIsOrdered → (t : Content) (lanes : List (Lane Z)) (s next : State) (counts : Tally) (to : ℕ) → IsGoing t lanes s counts
    → AllByRecursion (λ (l : Lane Z). l.ended ≡ true) lanes → AllByRecursion (λ (l : Lane Z). l.waiting.items ≡ []) lanes
    → s.run.latest ≤ to → to < stamp_end → next.run ≡ after_advance to s.run → Keeps s next → IsGoing t lanes next counts
comes_anywhere {Z} ordered t lanes s next counts to going ended none onward early run keeps = (advances t lanes s next counts to going onward later until run keeps).0 where
  heads : (ls : List (Lane Z)) → AllByRecursion (λ (l : Lane Z). l.waiting.items ≡ []) ls → AllByRecursion (λ (w : Capture). w.records ≡ []) (map waiting_of ls)
  heads [] all = tt
  heads (l ∷ ls) all = (all.0, heads ls all.1)

  no_limit : (ls : List (Lane Z)) → AllByRecursion (λ (l : Lane Z). l.ended ≡ true) ls → limit_at ls ≡ None
  no_limit [] all = refl
  no_limit (l ∷ ls) all = ap (λ b. cond b (limit_at ls) (Some (first_place (l.last, l.port) (limit_at ls)))) all.0 ∙ no_limit ls all.1

  later : AllFrom to (merged (map waiting_of lanes))
  later = merged_from ordered to (map waiting_of lanes) (empty_heads to (map waiting_of lanes) (heads lanes none)) (waiting_rise lanes going.streams going.lanes_are going.settling.queued)

  until : to ≤ come_to (frontier going.streams)
  until =
      let at : come_to (frontier going.streams) ≡ last_instant = ap come_to (sym (frontier_is lanes going.streams going.lanes_are))
      ∙ ap (λ o. come_to (option_map (λ (p : ℕ × ℕ). p.0) o)) (no_limit lanes ended) in
      omega (arith, early, at)

-- that is no going back
pub no_going_back : {Z : Type 0} (t : Content) (lanes : List (Lane Z)) (s : State) (counts : Tally) (to : ℕ) (going : IsGoing t lanes s counts) → to
    ≡ come_to (option_map (λ (p : ℕ × ℕ). p.0) (limit_at lanes)) → to < s.run.latest → ⊥
no_going_back t lanes s counts to going to_is lt =
    let until = going.until in
    let at = to_is ∙ ap come_to (frontier_is lanes going.streams going.lanes_are) in
    omega (arith, until, at, lt)
