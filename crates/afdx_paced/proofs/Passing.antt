-- A record goes from its lane to the switch.
use Rattle.std.proofs.Common.{◌≡◌, ℕ, ◌<◌, ◌≤◌, ◌^◌, true, false, List, [], ◌∷◌, ◌++◌, map, length, set, get_or, slice_get, Option, Some, None, refl, ap, sym, ◌∙◌}
use Rattle.std.proofs.Common.{arith, subst, append_assoc}
use Rattle.std.specs.Prelude.{is_none}
use Rattle.std.specs.Option.{option_map}
use Rattle.std.specs.List.{AllByRecursion}
use Rattle.std.proofs.lemmas.Bool.{le-ltb}
use Rattle.std.proofs.lemmas.List.{map-set, length-append, length-map}
use Rattle.std.proofs.lemmas.Option.{slice_get-map, slice_get-get_or, same_Some}
use Rattle.afdx_units.specs.Time.{last_second}
use Rattle.afdx_earliest.specs.Instants.{IsFirstUpTo}
use Rattle.afdx_pcap.specs.Record.{Record}
use Rattle.afdx_pcap.specs.Fault.{last_stamp}
use Rattle.afdx_table.specs.declared.rows.PortRow.{PortRow}
use Rattle.afdx_table.specs.Content.{Content, port_row}
use Rattle.afdx_table.specs.WellFormed.{IsWellFormed, Rises as PortsRise}
use Rattle.afdx_core.specs.declared.step.Row.{Row}
use Rattle.afdx_core.specs.Step.{Step}
use Rattle.afdx_core.specs.Rows.{row_of}
use Rattle.afdx_core.specs.State.{Run, State, refusal_of, step_of}
use Rattle.afdx_core.specs.Held.{IsTaken}
use Rattle.afdx_core.specs.Merge.{Arrival, Capture, Rises, arrivals_of, merged}
use Rattle.afdx_core.specs.Inner.Merge.{AreInOrder, ByStampIsOrdered}
use Rattle.afdx_count.specs.Tally.{noted}
use Rattle.afdx_count.specs.Run.{counts_so_far}
use Rattle.afdx_count.specs.Inner.Laws.{NoteCountsOneMore}
use Rattle.afdx_session.specs.Output.{rows_of}
use Rattle.afdx_session.specs.Inner.Settled.{Ascend, ports_of, AllRise, IsGiven, SettledRecordsGo}
use Rattle.afdx_session.proofs.Gathering.{Known, all_known}
use Rattle.afdx_session.proofs.Numbered.{all_append, set_same}
use Rattle.afdx_session.proofs.Settling.{all_back}
use Rattle.afdx_session.proofs.Drawing.{gives}
use Rattle.afdx_paced.specs.Paced.{Lane, captures_of}
use Rattle.afdx_paced.specs.Inner.Parts.{Parts, lanes_of, lane_of, waiting_of, head_of, heads_of, taken, Takes}
use Rattle.afdx_paced.specs.Inner.Kept.{IsOfTable, IsSameTable, IsSorted, IsPassing, PassesOn}
use Rattle.afdx_paced.specs.declared.feeder.Feeder.{Feeder}
use Rattle.afdx_paced.proofs.Puts.{AllFrom}
use Rattle.afdx_paced.proofs.Lists.{all_weaker, all_set, all_at}
use Rattle.afdx_paced.proofs.Heads.{first_comes}
use Rattle.afdx_paced.proofs.Goes.{first_goes}

-- ---- the ports

ascend_of : (ports : List PortRow) → PortsRise ports → Ascend (map (λ (p : PortRow). p.id) ports)
ascend_of [] rises = tt
ascend_of (p ∷ ports) rises = (numbers p.id ports rises.0, ascend_of ports rises.1) where
  numbers : (n : ℕ) (qs : List PortRow) → AllByRecursion (λ (q : PortRow). n < q.id) qs → AllByRecursion (λ m. n < m) (map (λ (q : PortRow). q.id) qs)
  numbers n [] all = tt
  numbers n (q ∷ qs) all = (all.0, numbers n qs all.1)

waiting_ports : (lanes : List Parts) → ports_of (map waiting_of lanes) ≡ map (λ (l : Parts). l.port) lanes
waiting_ports [] = refl
waiting_ports (l ∷ lanes) = ap (λ (ns : List ℕ). l.port ∷ ns) (waiting_ports lanes)

pub ascend : {Z : Type 0} (f : Feeder Z) → IsOfTable f → Ascend (ports_of (map waiting_of f.lanes.items))
ascend f of = subst Ascend (sym (waiting_ports f.lanes.items ∙ of.ports)) (ascend_of f.switch.run.table.ports of.formed.ports_rise)

-- ---- what waits rises

rises_back : (xs ys : List Record) → Rises (xs ++ ys) → Rises ys
rises_back [] ys rises = rises
rises_back (x ∷ xs) ys rises = rises_back xs ys rises.1

pub waiting_rise : (lanes : List Parts) → AllByRecursion IsSorted lanes → AllByRecursion (λ (l : Parts). Rises l.waiting) lanes
waiting_rise lanes sorted = all_weaker IsSorted (λ (l : Parts). Rises l.waiting) (λ l s. rises_back l.gone l.waiting s.rises) lanes sorted

all_rise : (lanes : List Parts) → AllByRecursion IsSorted lanes → AllRise (map waiting_of lanes)
all_rise [] sorted = tt
all_rise (l ∷ lanes) sorted = (rises_back l.gone l.waiting sorted.0.rises, all_rise lanes sorted.1)

-- ---- a record goes from the lane at a place

pub record GoesAt (old new : List Parts) (place : ℕ) (lane : Parts) (frame : Record) (rest : List Record) : Type 0 where
  pub at : slice_get old place ≡ Some lane
  pub head : lane.waiting ≡ frame ∷ rest
  pub first : IsFirstUpTo (heads_of old) (length old) place frame.stamp
  pub lanes : new ≡ set old place (taken frame rest lane)

-- what came in is the same
same_came : (frame : Record) (rest : List Record) (lane : Parts) → lane.waiting ≡ frame ∷ rest → (lane.gone ++ frame ∷ []) ++ rest ≡ lane.gone ++ lane.waiting
same_came frame rest lane head = append_assoc lane.gone (frame ∷ []) rest ∙ ap (λ (rs : List Record). lane.gone ++ rs) (sym head)

pub same_lanes : (old new : List Parts) (place : ℕ) (lane : Parts) (frame : Record) (rest : List Record) → GoesAt old new place lane frame rest → lanes_of new ≡ lanes_of old
same_lanes old new place lane frame rest goes =
    ap lanes_of goes.lanes
    ∙ map-set lane_of old place (taken frame rest lane)
    ∙ ap (λ came. set (lanes_of old) place (record { port = lane.port; came = came; left = lane.left })) (same_came frame rest lane goes.head)
    ∙ set_same (lanes_of old) place (lane_of lane) (slice_get-map lane_of old place ∙ ap (option_map lane_of) goes.at)

-- it is the next of the merge
goes_next : {Z : Type 0} → SettledRecordsGo → (f : Feeder Z) (new : List Parts) (place : ℕ) (lane : Parts) (frame : Record) (rest : List Record) → IsOfTable f
    → AllByRecursion IsSorted f.lanes.items → GoesAt f.lanes.items new place lane frame rest
    → merged (map waiting_of f.lanes.items) ≡ record { port = lane.port; frame = frame } ∷ merged (map waiting_of new)
goes_next law f new place lane frame rest of sorted goes =
    first_goes law (map waiting_of f.lanes.items) place (waiting_of lane) frame rest (ascend f of) (all_rise f.lanes.items sorted)
    (slice_get-map waiting_of f.lanes.items place ∙ ap (option_map waiting_of) goes.at) goes.head (first_comes f.lanes.items place frame.stamp goes.first)
    ∙ ap (λ (ws : List Capture). record { port = lane.port; frame = frame } ∷ merged ws) (sym (ap (map waiting_of) goes.lanes ∙ map-set waiting_of f.lanes.items place (taken frame rest lane)))

-- what comes after it comes no sooner
frames-from : (n : ℕ) (arrivals : List Arrival) → AllByRecursion (λ (r : Record). n ≤ r.stamp) (map (λ (a : Arrival). a.frame) arrivals) → AllFrom n arrivals
frames-from n [] all = tt
frames-from n (a ∷ arrivals) all = (all.0, frames-from n arrivals all.1)

-- as many rows as arrivals were given
pub long_rows : (t : Content) (given : List Arrival) (s : State) → IsGiven t given s → length s.run.rows ≡ length given
long_rows t given s is = ap length is.rows ∙ length-map given (λ (b : Arrival). row_of t b.port b.frame)

-- ---- its port is the table's

known : {Z : Type 0} (f : Feeder Z) (k : ℕ) (l : Parts) → IsOfTable f → slice_get f.lanes.items k ≡ Some l → is_none (port_row f.switch.run.table l.port) ≡ false
known f k l of at =
    let ports = subst (AllByRecursion (Known f.switch.run.table.ports)) (sym of.ports) (all_known f.switch.run.table.ports) in
    all_at (Known f.switch.run.table.ports) (map (λ (m : Parts). m.port) f.lanes.items) k l.port ports
    (slice_get-map (λ (m : Parts). m.port) f.lanes.items k ∙ ap (option_map (λ (m : Parts). m.port)) at)

-- ---- what the switch is asked

pub record Arrives {Z : Type 0} (f : Feeder Z) (new : List Parts) (lane : Parts) (frame : Record) : Type 0 where
  pub next : merged (map waiting_of f.lanes.items) ≡ record { port = lane.port; frame = frame } ∷ merged (map waiting_of new)
  pub early : frame.stamp < last_second
  pub latest : f.switch.run.latest ≤ frame.stamp
  pub after : AllFrom frame.stamp (merged (map waiting_of new))
  pub accepted : refusal_of f.switch.run lane.port frame.stamp ≡ None

pub arrives : {Z : Type 0} → SettledRecordsGo → ByStampIsOrdered → (until : ℕ) (f : Feeder Z) (new : List Parts) (place : ℕ) (lane : Parts) (frame : Record) (rest : List Record) → IsOfTable f
    → IsPassing until f → GoesAt f.lanes.items new place lane frame rest → Arrives f new lane frame
arrives law ordered until f new place lane frame rest of passing goes = record {
  next = next;
  early = early;
  latest = latest;
  after = frames-from frame.stamp (merged (map waiting_of new)) (subst AreInOrder next (ordered (arrivals_of (map waiting_of f.lanes.items))).in_order).0;
  accepted = rw (known f place lane of goes.at, le-ltb frame.stamp f.switch.run.latest latest) refl;
} where
  next : merged (map waiting_of f.lanes.items) ≡ record { port = lane.port; frame = frame } ∷ merged (map waiting_of new)
  next = goes_next law f new place lane frame rest of passing.sorted goes

  latest : f.switch.run.latest ≤ frame.stamp
  latest = (subst (AllFrom f.switch.run.latest) next passing.later).0

  early : frame.stamp < last_second
  early =
      let own : IsSorted lane = all_at IsSorted f.lanes.items place lane passing.sorted goes.at in
      let here = all_back (λ (r : Record). r.stamp < last_second) lane.gone lane.waiting own.early in
      (subst (AllByRecursion (λ (r : Record). r.stamp < last_second)) goes.head here).0

-- ---- and after it

sorted_taken : (frame : Record) (rest : List Record) (lane : Parts) → lane.waiting ≡ frame ∷ rest → IsSorted lane → IsSorted (taken frame rest lane)
sorted_taken frame rest lane head s =
    let same = sym (same_came frame rest lane head) in
    record { rises = subst Rises same s.rises; early = subst (AllByRecursion (λ (r : Record). r.stamp < last_second)) same s.early; last = s.last ∙ ap (last_stamp 0) same }

pub passes_on : {Z : Type 0} → SettledRecordsGo → ByStampIsOrdered → NoteCountsOneMore → (until : ℕ) (old new : Feeder Z) (place : ℕ) (lane : Parts) (frame : Record) (rest : List Record) (step : Step)
    → IsOfTable old → IsPassing until old → GoesAt old.lanes.items new.lanes.items place lane frame rest → frame.stamp < until → IsSameTable old.switch new.switch → step.number < 2 ^ 64
    → IsTaken old.switch new.switch (row_of old.switch.run.table lane.port frame) frame step → new.counts ≡ noted step old.counts → PassesOn until true old new
passes_on {Z} law ordered counting until old new place lane frame rest step of passing goes lt same small is_taken counted = record {
  passing = record {
    given = given;
    whole = ap (λ lanes. merged (captures_of lanes)) lanes ∙ passing.whole ∙ ap (λ (xs : List Arrival). passing.given ++ xs) there.next
        ∙ sym (append_assoc passing.given (a ∷ []) (merged (map waiting_of new.lanes.items)));
    is_given = subst (λ (c : Content). IsGiven c given new.switch) (sym same.table) now;
    before = all_append (λ (b : Arrival). b.frame.stamp < until) passing.given (a ∷ []) passing.before (lt, tt);
    latest = omega (arith, at, lt);
    later = subst (λ n. AllFrom n (merged (map waiting_of new.lanes.items))) (sym at) there.after;
    sorted = subst (AllByRecursion IsSorted) (sym goes.lanes) (all_set IsSorted old.lanes.items place (taken frame rest lane) passing.sorted
        (sorted_taken frame rest lane goes.head (all_at IsSorted old.lanes.items place lane passing.sorted goes.at)));
    gone_before = subst (AllByRecursion Gone) (sym goes.lanes) (all_set Gone old.lanes.items place (taken frame rest lane) passing.gone_before
        (all_append (λ (r : Record). r.stamp < until) lane.gone (frame ∷ []) (all_at Gone old.lanes.items place lane passing.gone_before goes.at) (lt, tt)));
    counts_are = subst (λ (c : Content). new.counts ≡ counts_so_far c (rows_of c given)) (sym same.table) counts;
    few = let count = ap (λ (h : Step). h.number) is_taken.step_is in let long = long_rows t passing.given old.switch passing.is_given in
        let all = length-append passing.given (a ∷ []) in omega (arith, small, count, long, all);
  };
  comes = record { lanes = lanes };
  fewer = λ more. let first = ap length there.next in omega (arith, first);
  none = λ more. absurd (differ more);
} where
  t : Content
  t = old.switch.run.table

  a : Arrival
  a = record { port = lane.port; frame = frame }

  given : List Arrival
  given = passing.given ++ a ∷ []

  row : Row
  row = row_of t lane.port frame

  Gone : Parts → Type 0
  Gone l = AllByRecursion (λ (r : Record). r.stamp < until) l.gone

  there : Arrives old new.lanes.items lane frame
  there = arrives law ordered until old new.lanes.items place lane frame rest of passing goes

  lanes : lanes_of new.lanes.items ≡ lanes_of old.lanes.items
  lanes = same_lanes old.lanes.items new.lanes.items place lane frame rest goes

  now : IsGiven t given new.switch
  now = gives t passing.given a old.switch new.switch step passing.is_given is_taken

  at : new.switch.run.latest ≡ frame.stamp
  at = ap (λ (r : Run). r.latest) is_taken.run

  counts : new.counts ≡ counts_so_far t (rows_of t given)
  counts =
      counted ∙ ap (λ (h : Step). noted h old.counts) is_taken.step_is
      ∙ ap (noted (step_of old.switch.run row)) (passing.counts_are ∙ ap (counts_so_far t) (sym passing.is_given.rows))
      ∙ counting old.switch.run row of.formed
      ∙ ap (λ (r : Run). counts_so_far r.table r.rows) (sym is_taken.run)
      ∙ ap (λ (c : Content). counts_so_far c new.switch.run.rows) now.table
      ∙ ap (counts_so_far t) now.rows

  differ : true ≡ false → ⊥
  differ e = absurd cc

-- ---- the lists that the code writes back

-- the lane at a place where the first of all waits
pub lane_there : (old : List Parts) (place stamp : ℕ) (lane d : Parts) → IsFirstUpTo (heads_of old) (length old) place stamp → lane ≡ get_or old place d → slice_get old place ≡ Some lane
lane_there old place stamp lane d first is = slice_get-get_or old place d first.within ∙ ap Some (sym is)

-- its first record has that stamp
first_waits : (old : List Parts) (place stamp : ℕ) (lane : Parts) → IsFirstUpTo (heads_of old) (length old) place stamp → slice_get old place ≡ Some lane → head_of lane.waiting ≡ Some stamp
first_waits old place stamp lane first at =
    same_Some (head_of lane.waiting) (Some stamp)
    (ap (option_map (λ (l : Parts). head_of l.waiting)) (sym at) ∙ sym (slice_get-map (λ (l : Parts). head_of l.waiting) old place)
    ∙ slice_get-get_or (heads_of old) place None (subst (λ n. place < n) (sym (length-map old (λ (l : Parts). head_of l.waiting))) first.within) ∙ ap Some first.here)

pub goes_at : (old new : List Parts) (place stamp : ℕ) (lane after : Parts) (frame : Record) → IsFirstUpTo (heads_of old) (length old) place stamp → slice_get old place ≡ Some lane
    → (takes : Takes frame lane after) → new ≡ set old place after → (frame.stamp ≡ stamp) × GoesAt old new place lane frame takes.rest
goes_at old new place stamp lane after frame first at takes is = (
  same,
  record {
    at = at;
    head = takes.head;
    first = subst (λ n. IsFirstUpTo (heads_of old) (length old) place n) (sym same) first;
    lanes = is ∙ ap (set old place) takes.new_is;
  },
) where
  same : frame.stamp ≡ stamp
  same = same_Some frame.stamp stamp (ap head_of (sym takes.head) ∙ first_waits old place stamp lane first at)

-- something waits there
pub none_else : (old : List Parts) (place stamp : ℕ) (lane : Parts) → IsFirstUpTo (heads_of old) (length old) place stamp → slice_get old place ≡ Some lane → lane.waiting ≡ [] → ⊥
none_else old place stamp lane first at empty = differ (ap head_of (sym empty) ∙ first_waits old place stamp lane first at) where
  differ : None ≡ Some stamp → ⊥
  differ e = absurd cc

-- where a record went the stamps are those that then wait
pub heads_gone : (heads : List (Option ℕ)) (old new : List Parts) (place : ℕ) (after : Parts) (head : Option ℕ) → heads ≡ heads_of old → new ≡ set old place after → head ≡ head_of after.waiting
    → set heads place head ≡ heads_of new
heads_gone heads old new place after head are is at =
    ap (λ hs. set hs place head) are ∙ ap (set (heads_of old) place) at ∙ sym (map-set (λ (l : Parts). head_of l.waiting) old place after) ∙ ap (λ (ls : List Parts). heads_of ls) (sym is)

-- the lanes are of the same ports
pub ports_after : {Z : Type 0} (old new : Feeder Z) → lanes_of new.lanes.items ≡ lanes_of old.lanes.items → IsSameTable old.switch new.switch → IsOfTable old → IsOfTable new
ports_after old new lanes same of = record {
  formed = subst IsWellFormed (sym same.table) of.formed;
  ports = sym (numbers new.lanes.items) ∙ ap (map (λ (l : Lane). l.port)) lanes ∙ numbers old.lanes.items ∙ of.ports ∙ ap (λ (c : Content). map (λ (p : PortRow). p.id) c.ports) (sym same.table);
  handed = ap length same.handed ∙ of.handed ∙ ap (λ (c : Content). length c.ports) (sym same.table);
} where
  numbers : (ls : List Parts) → map (λ (l : Lane). l.port) (lanes_of ls) ≡ map (λ (l : Parts). l.port) ls
  numbers [] = refl
  numbers (l ∷ ls) = ap (λ (ns : List ℕ). l.port ∷ ns) (numbers ls)
