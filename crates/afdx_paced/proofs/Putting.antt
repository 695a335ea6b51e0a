-- A record comes in.
use Rattle.std.proofs.Common.{◌≡◌, ℕ, ◌<◌, ◌≤◌, false, List, [], ◌∷◌, ◌++◌, map, length, set, slice_get, slice_index, Some, refl, ap, sym, ◌∙◌, arith, inl, inr, subst, append_assoc}
use Rattle.std.specs.Option.{option_map}
use Rattle.std.specs.List.{AllByRecursion}
use Rattle.std.proofs.lemmas.List.{map-set}
use Rattle.std.proofs.lemmas.Option.{slice_get-map}
use Rattle.afdx_units.specs.Time.{last_second}
use Rattle.afdx_pcap.specs.Record.{Record}
use Rattle.afdx_pcap.specs.Fault.{last_stamp}
use Rattle.afdx_table.specs.declared.rows.PortRow.{PortRow}
use Rattle.afdx_table.specs.Content.{Content}
use Rattle.afdx_table.specs.WellFormed.{IsWellFormed}
use Rattle.afdx_core.specs.Merge.{Arrival, Rises, merged}
use Rattle.afdx_core.specs.State.{State}
use Rattle.afdx_count.specs.Run.{counts_so_far}
use Rattle.afdx_session.specs.Output.{rows_of}
use Rattle.afdx_session.specs.Inner.Settled.{IsGiven}
use Rattle.afdx_session.proofs.Numbered.{all_append, set_same}
use Rattle.afdx_session.proofs.Going.{get-set}
use Rattle.afdx_paced.specs.Paced.{Lane, Paced, out_up_to, changed, came_in}
use Rattle.afdx_paced.specs.Laws.{LaterRecordsChangeNothing}
use Rattle.afdx_paced.specs.Inner.Parts.{Parts, lane_of, lanes_of, gone_of, joined}
use Rattle.afdx_paced.specs.Inner.Kept.{paced_of, IsOfTable, IsSorted, IsCut, given_of, HasLeft, HaveLeft, IsGoing}
use Rattle.afdx_paced.specs.declared.feeder.Feeder.{Feeder}
use Rattle.afdx_paced.proofs.Lists.{all_set, all_at}
use Rattle.afdx_paced.proofs.Places.{IsPlaceOf}

-- ---- one more record behind others

last_of_more : (n : ℕ) (rs : List Record) (r : Record) → last_stamp n (rs ++ r ∷ []) ≡ r.stamp
last_of_more n [] r = refl
last_of_more n (q ∷ rs) r = last_of_more q.stamp rs r

-- each is no later than the last one
up_to_last : (n : ℕ) (rs : List Record) → AllByRecursion (λ (r : Record). n ≤ r.stamp) rs → Rises rs → n ≤ last_stamp n rs
up_to_last n [] all rises = omega arith
up_to_last n (r ∷ rs) all rises = let le = up_to_last r.stamp rs rises.0 rises.1 in let first = all.0 in omega (arith, le, first)

rises_more : (n : ℕ) (rs : List Record) (r : Record) → AllByRecursion (λ (q : Record). n ≤ q.stamp) rs → Rises rs → last_stamp n rs ≤ r.stamp → Rises (rs ++ r ∷ [])
rises_more n [] r all rises le = (tt, tt)
rises_more n (q ∷ rs) r all rises le =
    let up = up_to_last q.stamp rs rises.0 rises.1 in (
      all_append (λ (x : Record). q.stamp ≤ x.stamp) rs (r ∷ []) rises.0 (omega (arith, up, le), tt),
      rises_more q.stamp rs r rises.0 rises.1 le,
    )

from_zero : (rs : List Record) → AllByRecursion (λ (r : Record). 0 ≤ r.stamp) rs
from_zero [] = tt
from_zero (r ∷ rs) = (omega arith, from_zero rs)

sorted_more : (frame : Record) (l : Parts) → frame.stamp < last_second → last_stamp 0 (l.gone ++ l.waiting) ≤ frame.stamp → IsSorted l → IsSorted (joined frame l)
sorted_more frame l early le s =
    let same : (l.gone ++ l.waiting) ++ frame ∷ [] ≡ l.gone ++ (l.waiting ++ frame ∷ []) = append_assoc l.gone l.waiting (frame ∷ []) in
    record {
      rises = subst Rises same (rises_more 0 (l.gone ++ l.waiting) frame (from_zero (l.gone ++ l.waiting)) s.rises le);
      early = subst (AllByRecursion (λ (r : Record). r.stamp < last_second)) same
          (all_append (λ (r : Record). r.stamp < last_second) (l.gone ++ l.waiting) (frame ∷ []) s.early (early, tt));
      last = sym (last_of_more 0 (l.gone ++ l.waiting) frame) ∙ ap (last_stamp 0) same;
    }

cut_more : (h : ℕ) (frame : Record) (l : Parts) → frame.stamp < last_second → h ≤ frame.stamp → last_stamp 0 (l.gone ++ l.waiting) ≤ frame.stamp → IsCut h l → IsCut h (joined frame l)
cut_more h frame l early here le cut = record {
  sorted = sorted_more frame l early le cut.sorted;
  gone = cut.gone;
  waiting = all_append (λ (r : Record). h ≤ r.stamp) l.waiting (frame ∷ []) cut.waiting (here, tt);
}

-- ---- in a lane

pub lanes_more : (ports : List PortRow) (lanes : List Parts) (port place : ℕ) (frame : Record) (is : IsPlaceOf ports lanes port place)
    → lanes_of (set lanes place (joined frame is.lane)) ≡ changed port (came_in frame) (lanes_of lanes)
lanes_more ports lanes port place frame is =
    map-set lane_of lanes place (joined frame is.lane)
    ∙ ap (λ (came : List Record). set (lanes_of lanes) place (record { port = is.lane.port; came = came; left = is.lane.left })) (sym (append_assoc is.lane.gone is.lane.waiting (frame ∷ [])))
    ∙ sym (is.changed_is (came_in frame))

same_given : (lanes : List Parts) (place : ℕ) (frame : Record) (l : Parts) → slice_get lanes place ≡ Some l → given_of (set lanes place (joined frame l)) ≡ given_of lanes
same_given lanes place frame l at =
    ap (λ cs. merged cs) (map-set gone_of lanes place (joined frame l) ∙ set_same (map gone_of lanes) place (gone_of l) (slice_get-map gone_of lanes place ∙ ap (option_map gone_of) at))

ports_stay : (lanes : List Parts) (place : ℕ) (l m : Parts) → slice_get lanes place ≡ Some l → m.port ≡ l.port → map (λ (x : Parts). x.port) (set lanes place m) ≡ map (λ (x : Parts). x.port) lanes
ports_stay lanes place l m at same =
    map-set (λ (x : Parts). x.port) lanes place m
    ∙ ap (set (map (λ (x : Parts). x.port) lanes) place) same
    ∙ set_same (map (λ (x : Parts). x.port) lanes) place l.port (slice_get-map (λ (x : Parts). x.port) lanes place ∙ ap (option_map (λ (x : Parts). x.port)) at)

-- a lane is another one of the same port, and the switch has as many places
pub of_table_set : {Z : Type 0} (old new : Feeder Z) (place : ℕ) (l m : Parts) → slice_get old.lanes.items place ≡ Some l → m.port ≡ l.port → new.lanes.items ≡ set old.lanes.items place m
    → new.switch.run.table ≡ old.switch.run.table → length new.switch.run.handed ≡ length old.switch.run.handed → IsOfTable old → IsOfTable new
of_table_set old new place l m at same lanes table handed of = record {
  formed = subst IsWellFormed (sym table) of.formed;
  ports = ap (map (λ (x : Parts). x.port)) lanes ∙ ports_stay old.lanes.items place l m at same ∙ of.ports ∙ ap (λ (c : Content). map (λ (p : PortRow). p.id) c.ports) (sym table);
  handed = handed ∙ of.handed ∙ ap (λ (c : Content). length c.ports) (sym table);
}

pub puts : {Z : Type 0} → LaterRecordsChangeNothing → (h : ℕ) (old new : Feeder Z) (port place : ℕ) (frame : Record) (is : IsPlaceOf old.switch.run.table.ports old.lanes.items port place)
    → frame.stamp < last_second → h ≤ frame.stamp → last_stamp 0 (is.lane.gone ++ is.lane.waiting) ≤ frame.stamp
    → new.switch ≡ old.switch → new.counts ≡ old.counts → new.lanes.items ≡ set old.lanes.items place (joined frame is.lane) → IsGoing h old → IsGoing h new
puts {Z} law h old new port place frame is early here le switch counts lanes going = record {
  cut = subst (AllByRecursion (IsCut h)) (sym lanes) (all_set (IsCut h) old.lanes.items place (joined frame is.lane) going.cut
      (cut_more h frame is.lane early here le (all_at (IsCut h) old.lanes.items place is.lane going.cut is.at)));
  is_given = subst (λ (s : State). IsGiven s.run.table (given_of new.lanes.items) s) (sym switch) (subst (λ (xs : List Arrival). IsGiven t xs old.switch) (sym given) going.is_given);
  latest = ap (λ (s : State). s.run.latest) switch ∙ going.latest;
  counts_are = counts ∙ going.counts_are ∙ ap (λ (xs : List Arrival). counts_so_far t (rows_of t xs)) (sym given)
      ∙ ap (λ (s : State). counts_so_far s.run.table (rows_of s.run.table (given_of new.lanes.items))) (sym switch);
  few = subst (λ (xs : List Arrival). length xs ≤ 18446744073709551616) (sym given) going.few;
  left = left;
} where
  t : Content
  t = old.switch.run.table

  given : given_of new.lanes.items ≡ given_of old.lanes.items
  given = ap given_of lanes ∙ same_given old.lanes.items place frame is.lane is.at

  v : Paced
  v = paced_of old h false

  same_out : (p : PortRow) → out_up_to (paced_of new h false) (Some h) p ≡ out_up_to v (Some h) p
  same_out p =
      ap (λ (s : State). out_up_to (record { table = s.run.table; lanes = lanes_of new.lanes.items; reached = h; failed = false; keeps = s.keeps }) (Some h) p) switch
      ∙ ap (λ (ls : List Lane). out_up_to (record { table = t; lanes = ls; reached = h; failed = false; keeps = old.switch.keeps }) (Some h) p)
      (ap lanes_of lanes ∙ lanes_more old.switch.run.table.ports old.lanes.items port place frame is)
      ∙ law v port frame h p here

  at_place : (k : ℕ) (p : PortRow) (l m : Parts) → slice_get t.ports k ≡ Some p → slice_get old.lanes.items k ≡ Some m → m.left ≡ l.left → HasLeft h new k p l
  at_place k p l m is_port was same =
      let before : HasLeft h old k p m = going.left k p m is_port was in
      record {
        count = ap (λ (s : State). slice_index s.run.handed k) switch ∙ before.count ∙ ap length same;
        rest = before.rest;
        prefix = same_out p ∙ before.prefix ∙ ap (λ (rs : List Record). rs ++ before.rest) same;
      }

  left : HaveLeft h new
  left k p l is_port is_lane =
      let is_row = ap (λ (s : State). slice_get s.run.table.ports k) (sym switch) ∙ is_port in
      elim (get-set old.lanes.items place k is.lane (joined frame is.lane) l is.at (ap (λ (ls : List Parts). slice_get ls k) (sym lanes) ∙ is_lane)) [
        | inl same ↦ at_place k p l is.lane is_row (ap (slice_get old.lanes.items) same.0 ∙ is.at) (ap (λ (x : Parts). x.left) (sym same.1))
        | inr other ↦ at_place k p l l is_row other refl
      ]

-- where the lanes are as they were
pub going_same : {Z : Type 0} → (h : ℕ) (old new : Feeder Z) → new.switch ≡ old.switch → new.counts ≡ old.counts → new.lanes.items ≡ old.lanes.items → IsGoing h old → IsGoing h new
going_same {Z} h old new switch counts lanes going = record {
  cut = subst (AllByRecursion (IsCut h)) (sym lanes) going.cut;
  is_given = subst (λ (s : State). IsGiven s.run.table (given_of new.lanes.items) s) (sym switch)
      (subst (λ (ls : List Parts). IsGiven t (given_of ls) old.switch) (sym lanes) going.is_given);
  latest = ap (λ (s : State). s.run.latest) switch ∙ going.latest;
  counts_are = counts ∙ going.counts_are ∙ ap (λ (ls : List Parts). counts_so_far t (rows_of t (given_of ls))) (sym lanes)
      ∙ ap (λ (s : State). counts_so_far s.run.table (rows_of s.run.table (given_of new.lanes.items))) (sym switch);
  few = subst (λ (ls : List Parts). length (given_of ls) ≤ 18446744073709551616) (sym lanes) going.few;
  left = λ k p l is_port is_lane.
      let before : HasLeft h old k p l
      = going.left k p l (ap (λ (s : State). slice_get s.run.table.ports k) (sym switch) ∙ is_port) (ap (λ (ls : List Parts). slice_get ls k) (sym lanes) ∙ is_lane) in
      record {
        count = ap (λ (s : State). slice_index s.run.handed k) switch ∙ before.count;
        rest = before.rest;
        prefix = same_out p ∙ before.prefix;
      };
} where
  t : Content
  t = old.switch.run.table

  same_out : (p : PortRow) → out_up_to (paced_of new h false) (Some h) p ≡ out_up_to (paced_of old h false) (Some h) p
  same_out p =
      ap (λ (s : State). out_up_to (record { table = s.run.table; lanes = lanes_of new.lanes.items; reached = h; failed = false; keeps = s.keeps }) (Some h) p) switch
      ∙ ap (λ (ls : List Parts). out_up_to (record { table = t; lanes = lanes_of ls; reached = h; failed = false; keeps = old.switch.keeps }) (Some h) p) lanes
