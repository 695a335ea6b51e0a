-- A record leaves.
use Rattle.std.proofs.Common.{◌≡◌, ℕ, zero, suc, ◌+◌, ◌<◌, ◌≤◌, ◌==◌, false, cond, nat_lt, List, [], ◌∷◌, ◌++◌, map, length, set, slice_get, slice_index, Option, Some, None}
use Rattle.std.proofs.Common.{refl, ap, sym, ◌∙◌, arith, inl, inr, subst}
use Rattle.std.proofs.Common.{append_assoc, get_or-set_same, get_or-set_other}
use Rattle.std.specs.Option.{option_map}
use Rattle.std.specs.List.{AllByRecursion, position_or_len}
use Rattle.std.proofs.lemmas.List.{map-set, length-append, append-nil}
use Rattle.std.proofs.lemmas.Bool.{lt-ltb, le-ltb, cases_eq}
use Rattle.std.proofs.lemmas.Option.{slice_get-map, slice_get_within, same_Some}
use Rattle.afdx_pcap.specs.Record.{Record}
use Rattle.afdx_table.specs.declared.rows.PortRow.{PortRow}
use Rattle.afdx_table.specs.Content.{Content}
use Rattle.afdx_port.specs.declared.Sent.{Sent}
use Rattle.afdx_core.specs.State.{Run, State, sent_in, place_of, next_by, out_of}
use Rattle.afdx_core.specs.Held.{IsHanded}
use Rattle.afdx_core.specs.Merge.{Arrival, merged}
use Rattle.afdx_core.specs.Inner.Merge.{ByStampIsOrdered}
use Rattle.afdx_count.specs.Run.{counts_so_far}
use Rattle.afdx_session.specs.Output.{rows_of, bytes_at, written}
use Rattle.afdx_session.specs.Streams.{LaterArrivalsChangeNothing}
use Rattle.afdx_session.specs.Inner.Replay.{HasBytesOf}
use Rattle.afdx_session.specs.Inner.Settled.{IsGiven, IsAt}
use Rattle.afdx_session.proofs.Showing.{sent_is}
use Rattle.afdx_session.proofs.Numbered.{set_same, set_here}
use Rattle.afdx_session.proofs.Going.{get-set}
use Rattle.afdx_session.proofs.Replaying.{bytes_stay}
use Rattle.afdx_paced.specs.Paced.{Paced, capture_of, captures_of, out_up_to, changed, went_out}
use Rattle.afdx_paced.specs.Laws.{MergesAreCut}
use Rattle.afdx_paced.specs.Inner.Parts.{Parts, lane_of, lanes_of, gone_of, waiting_of, departed}
use Rattle.afdx_paced.specs.Inner.Kept.{paced_of, IsOfTable, IsCut, given_of, HasLeft, HaveLeft, IsGoing}
use Rattle.afdx_paced.specs.declared.feeder.Feeder.{Feeder}
use Rattle.afdx_paced.proofs.Puts.{out_by, out_without}
use Rattle.afdx_paced.proofs.Lists.{all_weaker, all_set, all_at}
use Rattle.afdx_paced.proofs.Cutting.{parted_whole, waits_from, cut_parted}
use Rattle.afdx_port.specs.Inner.Course.{SentIsOfItems}
use Rattle.afdx_paced.proofs.Passing.{long_rows}
use Rattle.afdx_paced.proofs.Numbered.{sent_numbered}
use Rattle.afdx_paced.proofs.Places.{is_of, IsPlaceOf, no_such_row}

-- ---- what the switch sent

-- so is what leaves up to there of all that came in
pub out_is : {Z : Type 0} → LaterArrivalsChangeNothing → MergesAreCut → ByStampIsOrdered → (h : ℕ) (f : Feeder Z) (p : PortRow) → IsGoing h f
    → out_up_to (paced_of f h false) (Some h) p ≡ map (written (given_of f.lanes.items)) (sent_in f.switch.run (Some p))
out_is law cut ordered h f p going =
    let t = f.switch.run.table in
    let lanes = f.lanes.items in
    let later = waits_from ordered h lanes (all_weaker (IsCut h) (λ (l : Parts). AllByRecursion (λ (r : Record). h ≤ r.stamp) l.waiting) (λ l c. c.waiting) lanes going.cut) in
    let at : IsAt t (given_of lanes) h f.switch = record { is_given = going.is_given; latest = going.latest } in
    ap (λ (xs : List Arrival). out_by t xs (Some h) p) (parted_whole cut h lanes (cut_parted h lanes going.cut))
    ∙ out_without law t (given_of lanes) (merged (map waiting_of lanes)) h p later
    ∙ ap (map (written (given_of lanes))) (sym (sent_is t (given_of lanes) h f.switch p at))

-- ---- what was handed out

handed_bytes : (held : Option (Option Record)) (s : Sent) (out : Record) → out_of held s ≡ Some out → (frame : Record) × (held ≡ Some (Some frame))
    × (out ≡ record { stamp = s.end; original = length frame.bytes; bytes = frame.bytes })
handed_bytes (Some (Some frame)) s out is = (frame, refl, same is) where
  same : {e : Record} → Some e ≡ Some out → out ≡ e
  same e = cc
handed_bytes (Some None) s out is = absurd cc
handed_bytes None s out is = absurd cc

written_is : (arrivals : List Arrival) (s : Sent) (bytes : List ℕ) → bytes_at arrivals s.item.number ≡ bytes → written arrivals s ≡ record { stamp = s.end; original = length bytes; bytes = bytes }
written_is arrivals s bytes is = let made : List ℕ → Record = λ b. record { stamp = s.end; original = length b; bytes = b } in ap made is

-- its number is that of an arrival, where it is held
pub written_out : (arrivals : List Arrival) (now : State) (out : Record) (s : Sent) → HasBytesOf arrivals now → s.item.number < length arrivals
    → out_of (slice_get now.frames s.item.number) s ≡ Some out → written arrivals s ≡ out
written_out arrivals now out s has within is =
    let found = handed_bytes (slice_get now.frames s.item.number) s out is in
    written_is arrivals s found.0.bytes (has s.item.number found.0 within found.1) ∙ sym found.2

-- ---- the place of what is handed out

-- the switch knows the port's place as the lanes do
pub same_place : (r : Run) (lanes : List Parts) (port place : ℕ) → IsPlaceOf r.table.ports lanes port place → place_of r port ≡ Some place
same_place r lanes port place is =
    let test = λ (p : PortRow). p.id == port in
    let lt = slice_get_within r.table.ports place is.row is.row_at in
    let at = is.row_place in
    ap (λ n. cond (nat_lt n (length r.table.ports)) (Some n) None) at ∙ ap (λ b. cond b (Some place) None) (lt-ltb place (length r.table.ports) lt)

-- nor does it know a port that they lack
pub no_place : (r : Run) (lanes : List Parts) (port : ℕ) → map (λ (l : Parts). l.port) lanes ≡ map (λ (p : PortRow). p.id) r.table.ports
    → length lanes ≤ position_or_len (is_of port) lanes → place_of r port ≡ None
no_place r lanes port same past =
    let first = position_or_len (λ (p : PortRow). p.id == port) r.table.ports in
    ap (λ b. cond b (Some first) None) (le-ltb first (length r.table.ports) (no_such_row r.table.ports lanes port same past))

-- what comes behind the records that left
pub behind : (left rest xs : List Record) (k : ℕ) (x : Record) → k ≡ length left → xs ≡ left ++ rest → slice_get xs k ≡ Some x → (tail : List Record) × (rest ≡ x ∷ tail)
behind left rest xs k x at is found = first left rest (ap (slice_get (left ++ rest)) (sym at) ∙ ap (λ (ys : List Record). slice_get ys k) (sym is) ∙ found) where
  head : (ys : List Record) → slice_get ys 0 ≡ Some x → (tail : List Record) × (ys ≡ x ∷ tail)
  head [] found = absurd cc
  head (y ∷ ys) found = (ys, ap (λ (z : Record). z ∷ ys) (same_Some y x found))

  first : (ls ys : List Record) → slice_get (ls ++ ys) (length ls) ≡ Some x → (tail : List Record) × (ys ≡ x ∷ tail)
  first [] ys found = head ys found
  first (l ∷ ls) ys found = first ls ys found

-- nothing comes behind them, where they are as many
pub none_behind : (left rest xs : List Record) (k : ℕ) → k ≡ length left → xs ≡ left ++ rest → slice_get xs k ≡ None → left ≡ xs
none_behind left rest xs k at is none = sym (is ∙ ap (λ (ys : List Record). left ++ ys)
    (empty left rest (ap (slice_get (left ++ rest)) (sym at) ∙ ap (λ (ys : List Record). slice_get ys k) (sym is) ∙ none)) ∙ append-nil left) where
      no_head : (ys : List Record) → slice_get ys 0 ≡ None → ys ≡ []
      no_head [] none = refl
      no_head (y ∷ ys) none = absurd cc

      empty : (ls ys : List Record) → slice_get (ls ++ ys) (length ls) ≡ None → ys ≡ []
      empty [] ys none = no_head ys none
      empty (l ∷ ls) ys none = empty ls ys none

-- the frame that is handed out is the record behind those that left
pub record Hands (v : Paced) (p : PortRow) (l : Parts) (out : Record) : Type 0 where
  pub rest : List Record
  pub next : out_up_to v (Some v.reached) p ≡ l.left ++ out ∷ rest

pub hands : {Z : Type 0} → LaterArrivalsChangeNothing → MergesAreCut → ByStampIsOrdered → SentIsOfItems → (h : ℕ) (f : Feeder Z) (new : State) (port place : ℕ) (out : Record) (k : ℕ) (s : Sent)
    → (is : IsPlaceOf f.switch.run.table.ports f.lanes.items port place) → IsGoing h f → IsHanded f.switch new port out k s
    → (k ≡ place) × Hands (paced_of f h false) is.row is.lane out
hands {Z} law cut ordered of_items h f new port place out k s is going handed = (here, record { rest = tail.0; next = before.prefix ∙ ap (λ (rs : List Record). is.lane.left ++ rs) tail.1 }) where
  r : Run
  r = f.switch.run

  given : List Arrival
  given = given_of f.lanes.items

  here : k ≡ place
  here = same_Some k place (sym handed.at ∙ same_place r f.lanes.items port place is)

  before : HasLeft h f place is.row is.lane
  before = going.left place is.row is.lane is.row_at is.at

  next : slice_get (sent_in r (Some is.row)) (slice_index r.handed place) ≡ Some s
  next =
      ap (λ (o : Option PortRow). slice_get (sent_in r o) (slice_index r.handed place)) (sym is.row_at)
      ∙ ap (λ n. slice_get (sent_in r (slice_get r.table.ports n)) (slice_index r.handed n)) (sym here)
      ∙ handed.next

  within : s.item.number < length given
  within = let lt = sent_numbered of_items r is.row (slice_index r.handed place) s next in let long = long_rows r.table given f.switch going.is_given in omega (arith, lt, long)

  found : slice_get (out_up_to (paced_of f h false) (Some h) is.row) (slice_index r.handed place) ≡ Some out
  found =
      ap (λ (xs : List Record). slice_get xs (slice_index r.handed place)) (out_is law cut ordered h f is.row going)
      ∙ slice_get-map (written given) (sent_in r (Some is.row)) (slice_index r.handed place)
      ∙ ap (option_map (written given)) next
      ∙ ap Some (written_out given f.switch out s going.is_given.frames within handed.record_is)

  tail : (tail : List Record) × (before.rest ≡ out ∷ tail)
  tail = behind is.lane.left before.rest (out_up_to (paced_of f h false) (Some h) is.row) (slice_index r.handed place) out before.count before.prefix found

-- where none is, all left
pub hands_none : {Z : Type 0} → LaterArrivalsChangeNothing → MergesAreCut → ByStampIsOrdered → (h : ℕ) (f : Feeder Z) (port place : ℕ)
    → (is : IsPlaceOf f.switch.run.table.ports f.lanes.items port place) → IsGoing h f → next_by f.switch.run (place_of f.switch.run port) ≡ None
    → is.lane.left ≡ out_up_to (paced_of f h false) (Some h) is.row
hands_none {Z} law cut ordered h f port place is going none =
    none_behind is.lane.left before.rest (out_up_to (paced_of f h false) (Some h) is.row) (slice_index r.handed place) before.count before.prefix found where
      r : Run
      r = f.switch.run

      before : HasLeft h f place is.row is.lane
      before = going.left place is.row is.lane is.row_at is.at

      next : slice_get (sent_in r (Some is.row)) (slice_index r.handed place) ≡ None
      next =
          ap (λ (o : Option PortRow). slice_get (sent_in r o) (slice_index r.handed place)) (sym is.row_at)
          ∙ ap (next_by r) (sym (same_place r f.lanes.items port place is)) ∙ none

      found : slice_get (out_up_to (paced_of f h false) (Some h) is.row) (slice_index r.handed place) ≡ None
      found =
          ap (λ (xs : List Record). slice_get xs (slice_index r.handed place)) (out_is law cut ordered h f is.row going)
          ∙ slice_get-map (written (given_of f.lanes.items)) (sent_in r (Some is.row)) (slice_index r.handed place)
          ∙ ap (option_map (written (given_of f.lanes.items))) next

-- ---- after it

pub lanes_left : (ports : List PortRow) (lanes : List Parts) (port place : ℕ) (frame : Record) (is : IsPlaceOf ports lanes port place)
    → lanes_of (set lanes place (departed frame is.lane)) ≡ changed port (went_out frame) (lanes_of lanes)
lanes_left ports lanes port place frame is = map-set lane_of lanes place (departed frame is.lane) ∙ sym (is.changed_is (went_out frame))

same_gone : (lanes : List Parts) (place : ℕ) (frame : Record) (l : Parts) → slice_get lanes place ≡ Some l → given_of (set lanes place (departed frame l)) ≡ given_of lanes
same_gone lanes place frame l at =
    ap (λ cs. merged cs) (map-set gone_of lanes place (departed frame l) ∙ set_same (map gone_of lanes) place (gone_of l) (slice_get-map gone_of lanes place ∙ ap (option_map gone_of) at))

same_came : (lanes : List Parts) (place : ℕ) (frame : Record) (l : Parts) → slice_get lanes place ≡ Some l
    → captures_of (lanes_of (set lanes place (departed frame l))) ≡ captures_of (lanes_of lanes)
same_came [] place frame l at = absurd cc
same_came (m ∷ lanes) zero frame l at = ap (λ (x : Parts). capture_of (lane_of x) ∷ captures_of (lanes_of lanes)) (sym (same_Some m l at))
same_came (m ∷ lanes) (suc place) frame l at = ap (λ cs. capture_of (lane_of m) ∷ cs) (same_came lanes place frame l at)

pub leaves : {Z : Type 0} → (h : ℕ) (old new : Feeder Z) (port place : ℕ) (frame : Record) (s : Sent) (is : IsPlaceOf old.switch.run.table.ports old.lanes.items port place) → IsOfTable old
    → IsGoing h old → IsHanded old.switch new.switch port frame place s → Hands (paced_of old h false) is.row is.lane frame
    → new.counts ≡ old.counts → new.lanes.items ≡ set old.lanes.items place (departed frame is.lane) → IsGoing h new
leaves {Z} h old new port place frame s is of going handed out counts lanes = record {
  cut = subst (AllByRecursion (IsCut h)) (sym lanes) (all_set (IsCut h) old.lanes.items place (departed frame is.lane) going.cut cut);
  is_given = subst (λ (xs : List Arrival). IsGiven new.switch.run.table xs new.switch) (sym given) (record {
    table = refl;
    rows = ap (λ (r : Run). r.rows) handed.run ∙ going.is_given.rows ∙ ap (λ (c : Content). rows_of c (given_of old.lanes.items)) (sym table);
    still_open = ap (λ (r : Run). r.finished) handed.run ∙ going.is_given.still_open;
    frames = bytes_stay (given_of old.lanes.items) old.switch new.switch (let long = long_rows t (given_of old.lanes.items) old.switch going.is_given in omega (arith, long))
        handed.keeps going.is_given.frames;
  });
  latest = ap (λ (r : Run). r.latest) handed.run ∙ going.latest;
  counts_are = counts ∙ going.counts_are ∙ ap (λ (xs : List Arrival). counts_so_far t (rows_of t xs)) (sym given)
      ∙ ap (λ (c : Content). counts_so_far c (rows_of c (given_of new.lanes.items))) (sym table);
  few = subst (λ (xs : List Arrival). length xs ≤ 18446744073709551616) (sym given) going.few;
  left = left;
} where
  t : Content
  t = old.switch.run.table

  table : new.switch.run.table ≡ t
  table = ap (λ (r : Run). r.table) handed.run

  own : IsCut h is.lane
  own = all_at (IsCut h) old.lanes.items place is.lane going.cut is.at

  cut : IsCut h (departed frame is.lane)
  cut = record { sorted = record { rises = own.sorted.rises; early = own.sorted.early; last = own.sorted.last }; gone = own.gone; waiting = own.waiting }

  given : given_of new.lanes.items ≡ given_of old.lanes.items
  given = ap given_of lanes ∙ same_gone old.lanes.items place frame is.lane is.at

  counted : new.switch.run.handed ≡ set old.switch.run.handed place (slice_index old.switch.run.handed place + 1)
  counted = ap (λ (r : Run). r.handed) handed.run

  within : place < length old.switch.run.handed
  within = let lt = slice_get_within t.ports place is.row is.row_at in let long = of.handed in omega (arith, lt, long)

  same_out : (p : PortRow) → out_up_to (paced_of new h false) (Some h) p ≡ out_up_to (paced_of old h false) (Some h) p
  same_out p =
      ap (λ (c : Content). out_by c (merged (captures_of (lanes_of new.lanes.items))) (Some h) p) table
      ∙ ap (λ cs. out_by t (merged cs) (Some h) p) (ap (λ (ls : List Parts). captures_of (lanes_of ls)) lanes ∙ same_came old.lanes.items place frame is.lane is.at)

  before : HasLeft h old place is.row is.lane
  before = going.left place is.row is.lane is.row_at is.at

  here : (p : PortRow) → slice_get t.ports place ≡ Some p → HasLeft h new place p (departed frame is.lane)
  here p is_port =
      let row : is.row ≡ p = same_Some is.row p (sym is.row_at ∙ is_port) in
      let count = before.count in
      let more = ap (λ (ns : List ℕ). slice_index ns place) counted ∙ get_or-set_same old.switch.run.handed place (slice_index old.switch.run.handed place + 1) 0 within in
      let long = length-append is.lane.left (frame ∷ []) in
      record {
        count = omega (arith, count, more, long);
        rest = out.rest;
        prefix = same_out p ∙ ap (λ (q : PortRow). out_up_to (paced_of old h false) (Some h) q) (sym row) ∙ out.next ∙ sym (append_assoc is.lane.left (frame ∷ []) out.rest);
      }

  there : (k : ℕ) (p : PortRow) (l : Parts) → (k ≡ place → ⊥) → slice_get t.ports k ≡ Some p → slice_get old.lanes.items k ≡ Some l → HasLeft h new k p l
  there k p l other is_port was =
      let old_left : HasLeft h old k p l = going.left k p l is_port was in
      record {
        count = ap (λ (ns : List ℕ). slice_index ns k) counted ∙ get_or-set_other old.switch.run.handed place k (slice_index old.switch.run.handed place + 1) 0 other ∙ old_left.count;
        rest = old_left.rest;
        prefix = same_out p ∙ old_left.prefix;
      }

  left : HaveLeft h new
  left k p l is_port is_lane =
      let is_row = ap (λ (c : Content). slice_get c.ports k) (sym table) ∙ is_port in
      let now = ap (λ (ls : List Parts). slice_get ls k) (sym lanes) ∙ is_lane in
      elim (cases_eq k place) [
        | inl same ↦
            let lane : departed frame is.lane ≡ l =
            same_Some (departed frame is.lane) l (sym (set_here old.lanes.items place is.lane (departed frame is.lane) is.at)
            ∙ ap (slice_get (set old.lanes.items place (departed frame is.lane))) (sym same) ∙ now) in
            subst (λ (m : Parts). HasLeft h new k p m) lane (subst (λ n. HasLeft h new n p (departed frame is.lane)) (sym same) (here p (ap (slice_get t.ports) (sym same) ∙ is_row)))
        | inr other ↦ elim (get-set old.lanes.items place k is.lane (departed frame is.lane) l is.at now) [
          | inl same ↦ absurd (other same.0)
          | inr was ↦ there k p l other is_row was
        ]
      ]
