-- What contracts see of a switch, and what its calls do to it.
use Rattle.std.specs.Prelude.{◌≡◌, ℕ, ◌+◌, ◌==◌, Bool, true, false, nat_lt, if◌then◌else◌, List, [], ◌∷◌, ◌++◌, length, map, set, position, slice_get, slice_index, Option, Some, None, is_none}
use Rattle.afdx_pcap.specs.Record.{Record}
use Rattle.afdx_table.specs.declared.rows.PortRow.{PortRow}
use Rattle.afdx_table.specs.Link.{Link}
use Rattle.afdx_table.specs.Content.{Content, port_row}
use Rattle.afdx_account.specs.declared.frame.Frame.{Frame}
use Rattle.afdx_account.specs.Policing.{passed_frames}
use Rattle.afdx_account.specs.Early.{early_by}
use Rattle.afdx_load.specs.Load.{terms_of}
use Rattle.afdx_port.specs.declared.Item.{Item}
use Rattle.afdx_port.specs.declared.Sent.{Sent}
use Rattle.afdx_port.specs.declared.Aged.{Aged}
use Rattle.afdx_port.specs.declared.Offer.{Offer}
use Rattle.afdx_port.specs.declared.Offer.TheVariants.{Full}
use Rattle.afdx_port.specs.Admission.{admitted, occupied}
use Rattle.afdx_port.specs.Service.{reach, sent_of, aged_of}
use Rattle.afdx_port.specs.Content.{Content as PortContent, done, answer}
use Rattle.afdx_isolation.specs.Table.{settings_of}
use Rattle.afdx_core.specs.declared.step.Row.{Row}
use Rattle.afdx_core.specs.declared.step.CoreFault.{CoreFault}
use Rattle.afdx_core.specs.declared.step.CoreFault.TheVariants.{NoSuchPort, Earlier}
use Rattle.afdx_core.specs.Step.{Step}
use Rattle.afdx_core.specs.Rows.{named, passes, copy_of, fate_of, feed_of, account_frames}

-- what a switch answers rests on this, and on the bytes of the frames that it holds
pub record Run : Type 0 where
  pub table : Content
  -- the arrivals, in order
  pub rows : List Row
  -- the greatest stamp that was taken or advanced to
  pub latest : ℕ
  -- how many frames each port handed out, in the table's order of ports
  pub handed : List ℕ
  pub finished : Bool

-- the whole of what contracts see of a switch
pub record State : Type 0 where
  pub run : Run
  -- the frame of each arrival, as far as it is kept
  pub frames : List (Option Record)
  -- the table was checked, and accepted, before the switch was made
  pub accepted : Bool
  -- the lists of what came and of what ports admitted, sent and discarded are kept whole
  pub keeps : Bool

-- what a switch that took nothing rests on
abbrev pub fresh_run : Content → Run
fresh_run t = record { table = t; rows = []; latest = 0; handed = map (λ p. 0) t.ports; finished = false }

-- a switch that took nothing, over a table that was accepted or not checked, and that keeps its lists or lets go of them
abbrev pub fresh_state : (accepted keeps : Bool) → Content → State
fresh_state accepted keeps t = record { run = fresh_run t; frames = []; accepted = accepted; keeps = keeps }

-- an output port after these arrivals: it admits from its feed, and has come to the instant
abbrev pub port_after : Content → List Row → ℕ → Bool → PortRow → PortContent
port_after t rows latest finished p = record { settings = settings_of t.latency p; admitted = admitted (settings_of t.latency p) (feed_of t p.id rows); horizon = latest; finished = finished }

-- an output port as it is after the arrivals so far
abbrev pub port_in : Run → PortRow → PortContent
port_in r p = port_after r.table r.rows r.latest r.finished p

-- what the port in this row of the table admitted so far, in order
abbrev pub admitted_in : Run → Option PortRow → List Item
admitted_in r None = []
admitted_in r (Some p) = (port_in r p).admitted

-- what the port in this row sent so far, in order
abbrev pub sent_in : Run → Option PortRow → List Sent
sent_in r None = []
sent_in r (Some p) = sent_of (done (port_in r p))

-- what the port in this row discarded for its age so far, in order
abbrev pub aged_in : Run → Option PortRow → List Aged
aged_in r None = []
aged_in r (Some p) = aged_of (done (port_in r p))

-- the bytes that the port's buffer holds at the instant that the greatest stamp reaches
abbrev pub occupied_in : Run → Option PortRow → ℕ
occupied_in r None = 0
occupied_in r (Some p) = occupied (settings_of r.table.latency p) (reach (settings_of r.table.latency p) r.latest) (port_in r p).admitted

-- by how many ns a frame of a link would come too early for those that its policing passed
abbrev pub early_in : Run → Option Link → Frame → ℕ
early_in r None f = 0
early_in r (Some l) f = early_by (terms_of l) (passed_frames (terms_of l) (account_frames l.id r.rows)) f

-- ---- an arrival

-- the switch after the arrival of this row
abbrev pub after_row : Row → Run → Run
after_row row r = record { table = r.table; rows = r.rows ++ row ∷ []; latest = row.stamp; handed = r.handed; finished = r.finished }

-- the answer of a port to a copy
abbrev pub answer_of : Run → Item → Option PortRow → Offer
answer_of r item None = Full
answer_of r item (Some p) = answer item (port_in r p)

-- the answers of a link's ports to the copies of a frame, in the link's order; none if the frame is not passed
abbrev pub offers_by : Run → Option Link → Row → List (ℕ × Offer)
offers_by r None row = []
offers_by r (Some l) row = if passes l r.rows row then map (λ port. (port, answer_of r (copy_of l r.rows row) (port_row r.table port))) l.to else []

-- the answers to the copies of an arrival: those of its link's ports
abbrev pub offers_of : Run → Row → List (ℕ × Offer)
offers_of r row = offers_by r (named r.table row.verdict) row

-- what the switch does with the arrival of this row
abbrev pub step_of : Run → Row → Step
step_of r row = record { number = length r.rows; in_port = row.in_port; fate = fate_of r.table r.rows row; offers = offers_of r row }

-- the first refusal other than one of memory
abbrev pub refusal_of : Run → ℕ → ℕ → Option CoreFault
refusal_of r port stamp = if is_none (port_row r.table port) then Some NoSuchPort else if nat_lt stamp r.latest then Some Earlier else None

-- ---- the other calls

-- the switch after an advance to this instant: it is told that nothing comes before it any more
abbrev pub after_advance : ℕ → Run → Run
after_advance to r = record { table = r.table; rows = r.rows; latest = to; handed = r.handed; finished = r.finished }

-- the switch after the end: nothing comes any more
abbrev pub after_finish : Run → Run
after_finish r = record { table = r.table; rows = r.rows; latest = r.latest; handed = r.handed; finished = true }

-- one more frame of the port at this place was handed out
abbrev pub after_handing : ℕ → Run → Run
after_handing place r = record { table = r.table; rows = r.rows; latest = r.latest; handed = set r.handed place (slice_index r.handed place + 1); finished = r.finished }

-- the next sent frame of the port at a place, if it has one that was not handed out
abbrev pub next_at : Run → ℕ → Option Sent
next_at r place = slice_get (sent_in r (slice_get r.table.ports place)) (slice_index r.handed place)

-- the next sent frame of the port at this place, if the table has the port
abbrev pub next_by : Run → Option ℕ → Option Sent
next_by r None = None
next_by r (Some place) = next_at r place

-- the place of a port among the table's ports
abbrev pub place_of : Run → ℕ → Option ℕ
place_of r port = position (λ p. p.id == port) r.table.ports

-- a port's place, and its next sent frame that was not handed out, if it has one
abbrev pub IsNextOf : Run → ℕ → Option (ℕ × Sent) → Type 0
IsNextOf r port None = next_by r (place_of r port) ≡ None
IsNextOf r port (Some next) = (place_of r port ≡ Some next.0) × (next_at r next.0 ≡ Some next.1)

-- a sent frame: its end as stamp, its length as original, and the bytes that came
abbrev pub out_of : Option (Option Record) → Sent → Option Record
out_of (Some (Some frame)) s = Some (record { stamp = s.end; original = length frame.bytes; bytes = frame.bytes })
out_of (Some None) s = None
out_of None s = None
