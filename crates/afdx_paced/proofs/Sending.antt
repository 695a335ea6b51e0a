-- What a port sends, and what its next record was sent as.
use Rattle.std.proofs.Common.{◌≡◌, ℕ, ◌<◌, ◌≤◌, false, nat_lt, List, map, length, slice_get, slice_index, Option, Some, refl, ap, sym, ◌∙◌, inl, inr}
use Rattle.std.specs.List.{AllByRecursion, position_or_len}
use Rattle.std.proofs.lemmas.Bool.{cases_Bool, ltb-true, ltb-false}
use Rattle.afdx_pcap.specs.Record.{Record}
use Rattle.afdx_table.specs.declared.rows.PortRow.{PortRow}
use Rattle.afdx_table.specs.Content.{port_row}
use Rattle.afdx_port.specs.declared.Sent.{Sent}
use Rattle.afdx_port.specs.Inner.Events.{SentGoesOn}
use Rattle.afdx_port.specs.Inner.Order.{ReachesInOrder}
use Rattle.afdx_core.specs.State.{Run, sent_in, place_of, next_by, IsNextOf}
use Rattle.afdx_core.specs.Merge.{Arrival, arrivals_of, by_stamp, merged}
use Rattle.afdx_core.specs.Inner.Merge.{ByStampIsOrdered}
use Rattle.afdx_session.specs.Streams.{sent_up_to, LaterArrivalsChangeNothing}
use Rattle.afdx_session.specs.Inner.Settled.{IsAt}
use Rattle.afdx_session.proofs.Showing.{sent_is}
use Rattle.afdx_paced.specs.Paced.{Lane, Paced, arrivals, captures_of, sends_up_to, after_put, sent_behind, next_sent_of}
use Rattle.afdx_paced.specs.Laws.{from, below, MergesAreCut, LaterRecordsSendNothing, SendsGoOn}
use Rattle.afdx_paced.specs.Inner.Parts.{Parts, lane_of, waiting_of}
use Rattle.afdx_paced.specs.Inner.Kept.{paced_of, IsOfTable, IsCut, given_of, HasLeft, IsGoing}
use Rattle.afdx_paced.specs.declared.feeder.Feeder.{Feeder}
use Rattle.afdx_paced.proofs.Lists.{all_weaker}
use Rattle.afdx_paced.proofs.Cut.{all_high}
use Rattle.afdx_paced.proofs.Cutting.{parted_whole, waits_from, cut_parted}
use Rattle.afdx_paced.proofs.Places.{is_of, IsPlaceOf, place_of_port, no_such_lane}
use Rattle.afdx_paced.proofs.Puts.{same_below}
use Rattle.afdx_paced.proofs.Growing.{sent_until, sent_in_the_end}
use Rattle.afdx_paced.proofs.Handing.{same_place, no_place}

-- ---- the laws

sends_of_below : LaterArrivalsChangeNothing → MergesAreCut → (v : Paced) (h : ℕ) (p : PortRow)
    → sends_up_to v (Some h) p ≡ sent_up_to v.table (by_stamp (below h (arrivals_of (captures_of v.lanes)))) (Some h) p
sends_of_below law cut v h p =
    let all = arrivals_of (captures_of v.lanes) in
    ap (λ (xs : List Arrival). sent_up_to v.table xs (Some h) p) (cut h all)
    ∙ law.sent v.table (by_stamp (below h all)) (by_stamp (from h all)) h p (all_high h all)

pub later_records_send_nothing : LaterArrivalsChangeNothing → MergesAreCut → LaterRecordsSendNothing
later_records_send_nothing law cut v port frame h p le =
    sends_of_below law cut (after_put port frame v) h p
    ∙ ap (λ (xs : List Arrival). sent_up_to v.table (by_stamp xs) (Some h) p) (same_below h port frame v.lanes le)
    ∙ sym (sends_of_below law cut v h p)

pub sends_go_on : SentGoesOn → ReachesInOrder → SendsGoOn
sends_go_on law reaches = record {
  until = λ v h n p le. sent_until law reaches v.table (arrivals v) h n p le;
  in_the_end = λ v h p. sent_in_the_end law v.table (arrivals v) h p;
}

-- ---- the switch

-- what an open switch sent is what is sent of all that came in, up to the instant that it came to
pub sends_is : {Z : Type 0} → LaterArrivalsChangeNothing → MergesAreCut → ByStampIsOrdered → (h : ℕ) (f : Feeder Z) (p : PortRow) → IsGoing h f
    → sends_up_to (paced_of f h false) (Some h) p ≡ sent_in f.switch.run (Some p)
sends_is law cut ordered h f p going =
    let t = f.switch.run.table in
    let lanes = f.lanes.items in
    let later = waits_from ordered h lanes (all_weaker (IsCut h) (λ (l : Parts). AllByRecursion (λ (r : Record). h ≤ r.stamp) l.waiting) (λ l c. c.waiting) lanes going.cut) in
    let at : IsAt t (given_of lanes) h f.switch = record { is_given = going.is_given; latest = going.latest } in
    ap (λ (xs : List Arrival). sent_up_to t xs (Some h) p) (parted_whole cut h lanes (cut_parted h lanes going.cut))
    ∙ law.sent t (given_of lanes) (merged (map waiting_of lanes)) h p later
    ∙ sym (sent_is t (given_of lanes) h f.switch p at)

-- what it sends next is what comes behind as many as left; without the port there is none
pub next_is : {Z : Type 0} → LaterArrivalsChangeNothing → MergesAreCut → ByStampIsOrdered → (h : ℕ) (f : Feeder Z) (v : Paced) (port : ℕ) (next : Option Sent) → paced_of f h false ≡ v
    → IsOfTable f → IsGoing h f → next_by f.switch.run (place_of f.switch.run port) ≡ next → next ≡ next_sent_of v port
next_is {Z} law cut ordered h f v port next view of going is =
    sym is ∙ elim (cases_Bool (nat_lt place (length f.lanes.items))) [
      | inl within ↦ there (ltb-true place (length f.lanes.items) within)
      | inr past ↦ not_there (ltb-false place (length f.lanes.items) past)
    ] ∙ ap (λ (w : Paced). next_sent_of w port) view where
      r : Run
      r = f.switch.run

      seen : Paced
      seen = paced_of f h false

      place : ℕ
      place = position_or_len (is_of port) f.lanes.items

      there : place < length f.lanes.items → next_by r (place_of r port) ≡ next_sent_of seen port
      there within =
          let at : IsPlaceOf r.table.ports f.lanes.items port place = place_of_port r.table.ports f.lanes.items port place of.ports refl within in
          let before : HasLeft h f place at.row at.lane = going.left place at.row at.lane at.row_at at.at in
          ap (next_by r) (same_place r f.lanes.items port place at)
          ∙ ap (λ (o : Option PortRow). slice_get (sent_in r o) (slice_index r.handed place)) at.row_at
          ∙ ap (λ (xs : List Sent). slice_get xs (slice_index r.handed place)) (sym (sends_is law cut ordered h f at.row going))
          ∙ ap (slice_get (sends_up_to seen (Some h) at.row)) before.count
          ∙ sym (ap (λ (o : Option Lane). sent_behind seen o (port_row seen.table port)) at.lane_is ∙ ap (sent_behind seen (Some (lane_of at.lane))) at.row_is)

      not_there : length f.lanes.items ≤ place → next_by r (place_of r port) ≡ next_sent_of seen port
      not_there past =
          ap (next_by r) (no_place r f.lanes.items port of.ports past)
          ∙ sym (ap (λ (o : Option Lane). sent_behind seen o (port_row seen.table port)) (no_such_lane f.lanes.items port past))

-- what the switch says of it
pub next_some : (r : Run) (port : ℕ) (next : ℕ × Sent) → IsNextOf r port (Some next) → next_by r (place_of r port) ≡ Some next.1
next_some r port next is = ap (next_by r) is.0 ∙ is.1
