-- The line of a port while records come over it, as the code keeps it.
use Rattle.std.specs.Prelude.{◌≡◌, ℕ, List, [], map, filter, take, slice_get, All, Some, None}
use Rattle.afdx_pcap.specs.Record.{Record}
use Rattle.afdx_serial.specs.Serial.{last_soonest}
use Rattle.afdx_filter.specs.Frame.{frame_of}
use Rattle.afdx_table.specs.declared.rows.PortRow.{PortRow}
use Rattle.afdx_table.specs.Content.{Content}
use Rattle.afdx_session.specs.Lined.{RecordsKeepToLineWithin}
use Rattle.afdx_network_check.specs.Net.{Network, stamp_rounding}
use Rattle.afdx_network.specs.declared.line.Line.{Line}
use Rattle.afdx_network.specs.Given.{is_open, IsBreachAt}

-- a line has brought these records: none came too soon, and it keeps the soonest instant of the last one; or it keeps the number of the
-- first that did
pub record HasBrought (line : Line) (records : List Record) : Type 0 where
  pub kept : line.breach ≡ None → RecordsKeepToLineWithin stamp_rounding line.speed records × (line.came ≡ last_soonest line.speed None (map frame_of records))
  pub broken : (number : ℕ) → line.breach ≡ Some number → IsBreachAt line.speed records number

-- nothing has come over the line of a port
abbrev pub IsNew : PortRow → Line → Type 0
IsNew row line = (line.speed ≡ row.speed) × HasBrought line []

-- the rows of a switch's ports to which no wire goes
abbrev pub open_rows : Network → (switch : ℕ) → Content → List PortRow
open_rows net switch t = filter (λ row. is_open net switch row.id) t.ports

-- the first of these lines over which a record came too soon
pub record IsFirstBroken (lines : List Line) (place number : ℕ) : Type 0 where
  pub line : Line
  pub line_is : slice_get lines place ≡ Some line
  pub broken : line.breach ≡ Some number
  pub before : All (λ l. l.breach ≡ None) (take place lines)
