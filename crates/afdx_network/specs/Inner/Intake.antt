-- What is given for a run, as far as it was read.
use Rattle.std.specs.Prelude.{◌≡◌, ◌<◌, ◌≤◌, ◌+◌, ◌*◌, ◌∷◌, ◌++◌, ℕ, true, if◌then◌else◌, List, [], map, length, slice_get, Option, Some, None, All, Contains}
use Rattle.std.specs.List.{AllByRecursion, position_or_len}
use Rattle.afdx_units.specs.Time.{second, last_second, earlier_of}
use Rattle.afdx_pcap.specs.Record.{Record}
use Rattle.afdx_pcap.specs.Capture.{IsCapture}
use Rattle.afdx_session.specs.Texts.{Text}
use Rattle.afdx_session.specs.Lined.{RecordsKeepToLineWithin}
use Rattle.afdx_merging.specs.declared.fault.MergeFault.{MergeFault}
use Rattle.afdx_merging.specs.declared.fault.MergeFault.TheVariants as merge
use Rattle.afdx_merging.specs.Merge.{Arrival, at_place, same_clock}
use Rattle.afdx_merging.specs.Read.{AreMerged, HasFirstFault}
use Rattle.afdx_merging.specs.Inner.Merging.{HasMerged, least_of}
use Rattle.afdx_table.specs.declared.rows.PortRow.{PortRow}
use Rattle.afdx_table.specs.WellFormed.{IsWellFormed}
use Rattle.afdx_wiring.specs.declared.layout.End.{End}
use Rattle.afdx_wiring.specs.File.{is_end}
use Rattle.afdx_network_check.specs.Net.{Network, port_at, stamp_rounding}
use Rattle.afdx_network.specs.declared.intake.Intake.{Intake}
use Rattle.afdx_network.specs.declared.line.Line.{Line}
use Rattle.afdx_network.specs.declared.fault.NetworkRunFault.{NetworkRunFault}
use Rattle.afdx_network.specs.declared.fault.NetworkRunFault.TheVariants as fault
use Rattle.afdx_network.specs.Runs.{Given}
use Rattle.afdx_network.specs.Given.{open_ends, AreGiven, IsBreachAt}
use Rattle.afdx_network.specs.Inner.OneLine.{HasBrought}
use Rattle.afdx_network.specs.Inner.Sites.{end_at}

-- the place of a port among these
abbrev pub end_place : List End → End → ℕ
end_place ends e = position_or_len (λ x. is_end x e) ends

-- the records of these arrivals that the capture at a place has
abbrev pub records_at : (place : ℕ) → List Arrival → List Record
records_at place came = map (λ a. a.head.frame) (at_place place came)

-- the records of these arrivals that came in at a port: of the capture at its place
abbrev pub came_at : List End → List Arrival → (switch port : ℕ) → List Record
came_at ends came switch port = records_at (end_place ends (end_at switch port)) came

-- if the file says so, each port to which no wire goes is there once and has a line, which has brought those of these arrivals that came in there
pub record AreMet (net : Network) (lines : List Line) (came : List Arrival) : Type 0 where
  pub formed : net.layout.one_line ≡ true → All IsWellFormed net.tables
  pub many : length lines ≡ (if net.layout.one_line then length (open_ends net) else 0)
  pub each : (place : ℕ) (line : Line) (e : End) (row : PortRow) → slice_get lines place ≡ Some line → slice_get (open_ends net) place ≡ Some e
      → port_at net e ≡ Some row → (line.speed ≡ row.speed) × HasBrought line (records_at place came)

-- these arrivals were taken from the readers, which were as these at first and are as these now
pub record HasTaken {R : Type 0} (remaining : R → Option (List ℕ)) (net : Network) (first now : List R) (i : Intake) (came : List Arrival) : Type 0 where
  pub ends : i.ends.items ≡ open_ends net
  pub met : AreMet net i.lines.items came
  pub merged : HasMerged remaining (map (λ e. same_clock) (open_ends net)) first now i.merging came

-- the stamp of the first record that was not taken
abbrev pub next_of : Intake → Option ℕ
next_of i = least_of i.merging.lanes.items

-- the next record, if there is one, does not come before this instant
abbrev pub IsNotBefore : ℕ → Option ℕ → Type 0
IsNotBefore h None = Unit {0}
IsNotBefore h (Some n) = h ≤ n

-- these captures were given so far: those of the arrivals at each port
pub record AreGivenSoFar (net : Network) (came : List Arrival) (given : Given) : Type 0 where
  pub are : AreGiven net given
  pub each : (switch : ℕ) (own : List Text) (text : Text) → slice_get given switch ≡ Some own → Contains own text → IsCapture text.1 (came_at (open_ends net) came switch text.0)

-- each record of these came at least 64 seconds before the last second that pcap can hold
abbrev pub NoneCameLate : List Arrival → Type 0
NoneCameLate came = AllByRecursion (λ a. a.head.frame.stamp + 64 * second ≤ last_second) came

-- ---- a record is taken

-- the next of all arrivals is this record, which came in at this port
pub record IsNextIn {R : Type 0} (remaining : R → Option (List ℕ)) (net : Network) (first now : List R) (old new : Intake) (came : List Arrival) (to : End) (frame : Record) : Type 0 where
  pub arrival : Arrival
  pub to_is : slice_get (open_ends net) arrival.place ≡ Some to
  pub frame_is : frame ≡ arrival.head.frame
  pub taken : HasTaken remaining net first now new (came ++ arrival ∷ [])
  pub last : AllByRecursion (λ a. a.head.frame.stamp ≤ frame.stamp) came
  pub least : earlier_of (Some frame.stamp) (next_of new) ≡ next_of old
  pub early : frame.stamp < last_second

-- ---- the lines, when all were taken

-- the records that came in at the port at a place came over one line
abbrev pub IsOverItsLine : Network → List Arrival → (place : ℕ) → Type 0
IsOverItsLine net came place = (e : End) (row : PortRow) → slice_get (open_ends net) place ≡ Some e → port_at net e ≡ Some row
    → RecordsKeepToLineWithin stamp_rounding row.speed (records_at place came)

-- the records of each port came over one line, if the file says so
abbrev pub AreOverLines : Network → List Arrival → Type 0
AreOverLines net came = net.layout.one_line ≡ true → (place : ℕ) → IsOverItsLine net came place

-- the file says so; this is the first port of which it is not so, and this is the first record there that came too soon
pub record BreaksALine (net : Network) (came : List Arrival) (switch port number : ℕ) : Type 0 where
  pub said : net.layout.one_line ≡ true
  pub formed : All IsWellFormed net.tables
  pub place : ℕ
  pub end_is : slice_get (open_ends net) place ≡ Some (end_at switch port)
  pub before : (k : ℕ) → k < place → IsOverItsLine net came k
  pub row : PortRow
  pub row_is : port_at net (end_at switch port) ≡ Some row
  pub breach : IsBreachAt row.speed (records_at place came) number

-- the fault says where a line was broken so
abbrev pub IsLineFault : Network → List Arrival → NetworkRunFault → Type 0
IsLineFault net came (fault.Line switch port number) = BreaksALine net came switch port number
IsLineFault net came _ = ⊥

-- all arrivals were taken, over the lines of their ports
pub record HasTakenAll {R : Type 0} (remaining : R → Option (List ℕ)) (net : Network) (first : List R) (old : Intake) (came : List Arrival) : Type 0 where
  pub more : List Arrival
  pub merged : AreMerged remaining (map (λ e. same_clock) (open_ends net)) first (came ++ more)
  pub lines : AreOverLines net (came ++ more)
  pub none : next_of old ≡ None → more ≡ []

-- ---- what is given is not read on

-- the fault of captures that are merged, said of a port
abbrev pub IsFaultAt : List End → MergeFault → NetworkRunFault → Type 0
IsFaultAt ends merge.Memory why = why ≡ fault.Memory
IsFaultAt ends (merge.Read place) why = why ≡ fault.Read place
IsFaultAt ends (merge.Capture place reason) why = (e : End) × (slice_get ends place ≡ Some e) × (why ≡ fault.Capture e.switch e.port reason)

-- the fault is of one of so many captures, or memory ran out
abbrev pub IsAmong : ℕ → MergeFault → Type 0
IsAmong count merge.Memory = Unit {0}
IsAmong count (merge.Read place) = place < count
IsAmong count (merge.Capture place reason) = place < count

-- memory ran out or a reader failed, which may be at any time; or what this port's reader gives is the first that is no capture; or all that
-- the readers give are captures, and this port's line is the first that is broken
abbrev pub IsIntakeFault : {R : Type 0} → (R → Option (List ℕ)) → Network → List R → NetworkRunFault → Type 0
IsIntakeFault remaining net readers fault.Memory = Unit {0}
IsIntakeFault remaining net readers (fault.Read place) = place < length readers
IsIntakeFault remaining net readers (fault.Capture switch port why) =
    (place : ℕ) × (slice_get (open_ends net) place ≡ Some (end_at switch port)) × HasFirstFault remaining readers place why
IsIntakeFault remaining net readers (fault.Line switch port number) =
    (came : List Arrival) × AreMerged remaining (map (λ e. same_clock) (open_ends net)) readers came × BreaksALine net came switch port number
IsIntakeFault remaining net readers fault.WrongWires = ⊥
