-- The headline: under an accepted table, whatever frames come, what leaves an output port for a link is what the link's policing
-- passes of its own frames, in their order, and none is lost to a full buffer or to age; each has left within the port's bound.
use Rattle.std.specs.Prelude.{◌≡◌, ℕ, ◌≤◌, true, List, [], ◌∷◌, ◌++◌, map, Option, Some, None, All, Contains}
use Rattle.afdx_pcap.specs.Record.{Record}
use Rattle.afdx_table.specs.declared.rows.PortRow.{PortRow}
use Rattle.afdx_table.specs.Link.{Link, leads_to}
use Rattle.afdx_table.specs.Content.{Content}
use Rattle.afdx_table.specs.WellFormed.{IsWellFormed}
use Rattle.afdx_load.specs.Accepted.{IsAccepted}
use Rattle.afdx_account.specs.declared.frame.Frame.{Frame}
use Rattle.afdx_account.specs.Policing.{passed_of, passed_frames}
use Rattle.afdx_account.specs.Level.{InOrder}
use Rattle.afdx_port.specs.declared.Item.{Item}
use Rattle.afdx_port.specs.declared.Sent.{Sent}
use Rattle.afdx_port.specs.declared.Offer.TheVariants.{Queued}
use Rattle.afdx_isolation.specs.Arrivals.{own, frame_of_item}
use Rattle.afdx_isolation.specs.Table.{IsInBoundAt}
use Rattle.afdx_load.specs.Load.{terms_of}
use Rattle.afdx_core.specs.declared.step.Row.{Row}
use Rattle.afdx_core.specs.Rows.{row_of, frame_of_row, account_frames, named, copy_of, each_after, feed_of}
use Rattle.afdx_core.specs.State.{Run, fresh_run, port_in, sent_in, aged_in, refusal_of, offers_of, after_row, after_advance, after_handing, after_finish}

-- ---- runs

-- a row is that of a frame that came in at a port
abbrev pub IsOfAnArrival : Content → Row → Type 0
IsOfAnArrival t row = (port : ℕ) × (frame : Record) × (row ≡ row_of t port frame)

-- what is true of each switch: its rows are those of arrivals whose stamps did not fall
pub record IsRun (r : Run) : Type 0 where
  pub arrivals : All (IsOfAnArrival r.table) r.rows
  pub stamps : InOrder 0 (map frame_of_row r.rows)
  pub latest : All (λ row. row.stamp ≤ r.latest) r.rows

-- ---- the copies that ports may be offered

-- the copy of a frame of this link
abbrev pub copy_by : Option Link → List Row → Row → List Item
copy_by None before row = []
copy_by (Some l) before row = copy_of l before row ∷ []

-- the copies of all clean frames, each numbered by the arrivals before it
unfoldable pub clean_copies : Content → List Row → List Item
clean_copies t rows = each_after (λ before row. copy_by (named t row.verdict) before row) [] rows

-- the copies of a link's own frames that its policing passes
abbrev pub passed_copies : Content → Link → List Row → List Item
passed_copies t l rows = passed_of frame_of_item (terms_of l) (own l.id (clean_copies t rows))

-- the frames of these copies are the link's passed frames
abbrev pub PassedCopiesArePassedFrames : Type 0
PassedCopiesArePassedFrames = (t : Content) (l : Link) (rows : List Row) → IsWellFormed t → Contains t.links l
    → map frame_of_item (passed_copies t l rows) ≡ passed_frames (terms_of l) (account_frames l.id rows)

-- the copies of a link's frames that a port has sent
abbrev pub sent_copies : Run → PortRow → Link → List Item
sent_copies r p l = own l.id (map (λ (s : Sent). s.item) (sent_in r (Some p)))

-- ---- the theorem

-- the headline of a switch: no copy was lost, each that was sent was in its bound, and what left for each link is what its policing passes,
-- in order
pub record IsIsolatedRun (r : Run) : Type 0 where
  -- no copy was refused by a full buffer: each port admitted all that it was offered
  pub none_full : (p : PortRow) → Contains r.table.ports p → (port_in r p).admitted ≡ feed_of r.table p.id r.rows
  -- none was discarded for its age
  pub none_aged : (p : PortRow) → Contains r.table.ports p → aged_in r (Some p) ≡ []
  -- each that was sent ended within the port's bound for its priority
  pub in_bound : (p : PortRow) → Contains r.table.ports p → All (IsInBoundAt r.table p) (sent_in r (Some p))
  -- at each port of a link, what was sent of the link is a prefix of its passed frames, in their order
  pub prefix_of_passed : (p : PortRow) → Contains r.table.ports p → (l : Link) → Contains r.table.links l → leads_to p.id l ≡ true
      → (rest : List Item) × (sent_copies r p l ++ rest ≡ passed_copies r.table l r.rows)
  -- and all of them once the switch is finished
  pub all_passed_once_finished : r.finished ≡ true → (p : PortRow) → Contains r.table.ports p → (l : Link) → Contains r.table.links l → leads_to p.id l ≡ true
      → sent_copies r p l ≡ passed_copies r.table l r.rows

-- the headline holds of each switch over an accepted table
abbrev pub AcceptedTablesIsolate : Type 0
AcceptedTablesIsolate = (r : Run) → IsRun r → IsWellFormed r.table → IsAccepted r.table → IsIsolatedRun r

-- no port answers Full to a copy of the next arrival
abbrev pub NoStepIsFull : Type 0
NoStepIsFull = (r : Run) (port : ℕ) (frame : Record) → IsRun r → refusal_of r port frame.stamp ≡ None → IsWellFormed r.table → IsAccepted r.table
    → All (λ offer. offer.1 ≡ Queued) (offers_of r (row_of r.table port frame))

-- a copy as others see it: its frame, and the bytes that came with the arrival of its number
abbrev pub with_bytes : (ℕ → List ℕ) → Item → Frame × List ℕ
with_bytes bytes x = (frame_of_item x, bytes x.number)

-- two worlds: if links of two finished switches, each of an accepted table, have the same terms and the same own frames with the same
-- bytes, then the same frames with the same bytes leave for them in order at each of their ports, whatever else there is
abbrev pub OthersChangeNothing : Type 0
OthersChangeNothing = (r r' : Run) (bytes bytes' : ℕ → List ℕ) → IsRun r → IsRun r' → IsWellFormed r.table → IsWellFormed r'.table → IsAccepted r.table → IsAccepted r'.table
    → r.finished ≡ true → r'.finished ≡ true
    → (p p' : PortRow) (l l' : Link) → Contains r.table.ports p → Contains r'.table.ports p' → Contains r.table.links l → Contains r'.table.links l'
    → leads_to p.id l ≡ true → leads_to p'.id l' ≡ true → terms_of l ≡ terms_of l'
    → map (with_bytes bytes) (own l.id (clean_copies r.table r.rows)) ≡ map (with_bytes bytes') (own l'.id (clean_copies r'.table r'.rows))
    → map (with_bytes bytes) (sent_copies r p l) ≡ map (with_bytes bytes') (sent_copies r' p' l')

-- ---- each call makes a run of a run

-- a switch that took nothing is a run
abbrev pub RunsBegin : Type 0
RunsBegin = (t : Content) → IsRun (fresh_run t)

-- a run is one still after an arrival that is not refused
abbrev pub RunsTakeArrivals : Type 0
RunsTakeArrivals = (r : Run) (port : ℕ) (frame : Record) → refusal_of r port frame.stamp ≡ None → IsRun r → IsRun (after_row (row_of r.table port frame) r)

-- a run is one still after an advance
abbrev pub RunsAdvance : Type 0
RunsAdvance = (r : Run) (to : ℕ) → r.latest ≤ to → IsRun r → IsRun (after_advance to r)

-- a run is one still after a frame was handed out
abbrev pub RunsHandOut : Type 0
RunsHandOut = (r : Run) (place : ℕ) → IsRun r → IsRun (after_handing place r)

-- a run is one still once it is finished
abbrev pub RunsFinish : Type 0
RunsFinish = (r : Run) → IsRun r → IsRun (after_finish r)
