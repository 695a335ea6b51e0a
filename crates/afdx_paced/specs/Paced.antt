-- A switch that is fed by time, as contracts see it: what came in at each port and what left there, up to the instant that it has come to
-- (profile).
use Rattle.std.specs.Prelude.{ℕ, ◌≡◌, ◌≤◌, ◌==◌, ◌||◌, Bool, false, nat_lt, if◌then◌else◌, List, [], ◌∷◌, ◌++◌, map, find, length, slice_get, Option, Some, None, Contains, true}
use Rattle.afdx_pcap.specs.Record.{Record}
use Rattle.afdx_pcap.specs.Fault.{last_stamp}
use Rattle.afdx_table.specs.declared.rows.PortRow.{PortRow}
use Rattle.afdx_table.specs.Content.{Content, port_row}
use Rattle.afdx_port.specs.declared.Sent.{Sent}
use Rattle.afdx_core.specs.Isolation.{IsRun}
use Rattle.afdx_core.specs.Merge.{Arrival, Capture, merged}
use Rattle.afdx_core.specs.State.{Run}
use Rattle.afdx_session.specs.Output.{rows_of, written}
use Rattle.afdx_session.specs.Streams.{sent_up_to}
use Rattle.afdx_paced.specs.declared.paced.PacedFault.{PacedFault}
use Rattle.afdx_paced.specs.declared.paced.PacedFault.TheVariants.{Memory, NoSuchPort, Early}

-- what came in at a port, and what left it so far
pub record Lane : Type 0 where
  pub port : ℕ
  pub came : List Record
  pub left : List Record

-- a switch that is fed by time
pub record Paced : Type 0 where
  pub table : Content
  -- by rising port
  pub lanes : List Lane
  -- the instant that it has come to
  pub reached : ℕ
  -- a call ran out of memory while it went on
  pub failed : Bool
  -- the switch keeps its lists whole
  pub keeps : Bool

-- what came in at a port, as a capture
abbrev pub capture_of : Lane → Capture
capture_of l = record { port = l.port; records = l.came }

-- what came in at all ports
abbrev pub captures_of : List Lane → List Capture
captures_of lanes = map capture_of lanes

-- the program's merge of what came in
abbrev pub arrivals : Paced → List Arrival
arrivals v = merged (captures_of v.lanes)

-- what a port sends of what came in, as far as it starts before what an instant reaches; all, if there is none
abbrev pub sends_up_to : Paced → Option ℕ → PortRow → List Sent
sends_up_to v h p = sent_up_to v.table (arrivals v) h p

-- the records that leave a port so, up to an instant; all, if there is none
abbrev pub out_up_to : Paced → Option ℕ → PortRow → List Record
out_up_to v h p = map (written (arrivals v)) (sends_up_to v h p)

-- nothing came in at the port or left there
abbrev pub fresh_lane : PortRow → Lane
fresh_lane p = record { port = p.id; came = []; left = [] }

-- a switch of this table to which nothing came, at the instant 0
abbrev pub fresh_paced : (keeps : Bool) → Content → Paced
fresh_paced keeps t = record { table = t; lanes = map fresh_lane t.ports; reached = 0; failed = false; keeps = keeps }

-- ---- what calls do

-- the lanes, with that of a port changed
abbrev pub changed : ℕ → (Lane → Lane) → List Lane → List Lane
changed port f [] = []
changed port f (l ∷ lanes) = if l.port == port then f l ∷ lanes else l ∷ changed port f lanes

-- the lane of the port of a number
abbrev pub lane_at : Paced → ℕ → Option Lane
lane_at v port = find (λ l. l.port == port) v.lanes

-- one more record came in
abbrev pub came_in : Record → Lane → Lane
came_in frame l = record { port = l.port; came = l.came ++ frame ∷ []; left = l.left }

-- one more record left
abbrev pub went_out : Record → Lane → Lane
went_out frame l = record { port = l.port; came = l.came; left = l.left ++ frame ∷ [] }

-- the switch after a record came in at a port
abbrev pub after_put : ℕ → Record → Paced → Paced
after_put port frame v = record { table = v.table; lanes = changed port (came_in frame) v.lanes; reached = v.reached; failed = v.failed; keeps = v.keeps }

-- the switch after it went on to this instant
abbrev pub after_going : ℕ → Paced → Paced
after_going h v = record { table = v.table; lanes = v.lanes; reached = h; failed = v.failed; keeps = v.keeps }

-- the switch after a record left a port
abbrev pub after_leaving : ℕ → Record → Paced → Paced
after_leaving port frame v = record { table = v.table; lanes = changed port (went_out frame) v.lanes; reached = v.reached; failed = v.failed; keeps = v.keeps }

-- a record is early whose stamp is before the instant that the switch has come to, or before that of the last one at its port
abbrev pub early_at : ℕ → ℕ → Lane → Option PacedFault
early_at h stamp l = if nat_lt stamp h || nat_lt stamp (last_stamp 0 l.came) then Some Early else None

-- the first refusal other than one of memory: the table has no such port, or the record is early
abbrev pub refusal_by : ℕ → ℕ → Option Lane → Option PacedFault
refusal_by h stamp None = Some NoSuchPort
refusal_by h stamp (Some l) = early_at h stamp l

-- the first refusal of a record with this stamp at the port of a number, other than one of memory
abbrev pub put_refusal : Paced → ℕ → ℕ → Option PacedFault
put_refusal v port stamp = refusal_by v.reached stamp (lane_at v port)

-- a fault, unless it is one of memory
abbrev pub not_of_memory : PacedFault → Option PacedFault
not_of_memory Memory = None
not_of_memory NoSuchPort = Some NoSuchPort
not_of_memory Early = Some Early

-- the next record of a port went out: of what leaves it up to the instant, the one after those that left so far
pub record GoesOut (old new : Paced) (port : ℕ) (out : Record) : Type 0 where
  pub lane : Lane
  pub row : PortRow
  pub rest : List Record
  pub lane_is : lane_at old port ≡ Some lane
  pub row_is : port_row old.table port ≡ Some row
  pub next : out_up_to old (Some old.reached) row ≡ lane.left ++ out ∷ rest
  pub after : new ≡ after_leaving port out old

-- all that leaves a port up to the instant went out before, or the table has no such port
pub record NoneGoesOut (old new : Paced) (port : ℕ) : Type 0 where
  pub all : (lane : Lane) (row : PortRow) → lane_at old port ≡ Some lane → port_row old.table port ≡ Some row → lane.left ≡ out_up_to old (Some old.reached) row
  pub same : new ≡ old

-- the next record of a port went out, if there was one
abbrev pub IsNextOut : Paced → Paced → ℕ → Option Record → Type 0
IsNextOut old new port None = NoneGoesOut old new port
IsNextOut old new port (Some out) = GoesOut old new port out

-- of what a port sends up to the instant, what comes after as many as left so far; none without the port
abbrev pub sent_behind : Paced → Option Lane → Option PortRow → Option Sent
sent_behind v None row = None
sent_behind v (Some lane) None = None
sent_behind v (Some lane) (Some row) = slice_get (sends_up_to v (Some v.reached) row) (length lane.left)

-- what the next record of a port was sent as; none if all went out, or the table has no such port
abbrev pub next_sent_of : Paced → ℕ → Option Sent
next_sent_of v port = sent_behind v (lane_at v port) (port_row v.table port)

-- between the instant that it has come to and this one nothing starts at any port
abbrev pub IsQuietUntil : Paced → Option ℕ → Type 0
IsQuietUntil v h = (p : PortRow) → Contains v.table.ports p → out_up_to v h p ≡ out_up_to v (Some v.reached) p

-- an instant that it has not passed, before which nothing starts; if there is none, nothing is left
abbrev pub IsNext : Paced → Option ℕ → Type 0
IsNext v None = IsQuietUntil v None
IsNext v (Some n) = (v.reached ≤ n) × IsQuietUntil v (Some n)

-- ---- the end

-- the run of a finished switch that took all that came in
pub record HasTakenAll (v : Paced) (r : Run) : Type 0 where
  pub table : r.table ≡ v.table
  pub rows : r.rows ≡ rows_of v.table (arrivals v)
  pub is_run : IsRun r
  pub all : r.finished ≡ true
