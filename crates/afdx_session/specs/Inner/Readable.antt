-- What leaves can be read again.
use Rattle.std.specs.Prelude.{◌+◌, ◌≤◌, List, All, Contains}
use Rattle.std.specs.List.{AllByRecursion}
use Rattle.afdx_units.specs.Time.{second, last_second}
use Rattle.afdx_pcap.specs.Record.{IsWithinLimit}
use Rattle.afdx_pcap.specs.Text.{AreReadable}
use Rattle.afdx_table.specs.declared.rows.PortRow.{PortRow}
use Rattle.afdx_table.specs.Content.{Content}
use Rattle.afdx_table.specs.WellFormed.{IsWellFormed}
use Rattle.afdx_core.specs.Merge.{Capture, merged}
use Rattle.afdx_session.specs.Texts.{Text}
use Rattle.afdx_session.specs.Output.{output_of}
use Rattle.afdx_session.specs.Reading.{AreCaptures}

-- if each frame came at least one second before the last second that pcap can hold, each output reads back as it was written
abbrev pub OutputsAreReadable : Type 0
OutputsAreReadable = (t : Content) (texts : List Text) (read : List Capture) → IsWellFormed t → AreCaptures texts read
    → AllByRecursion (λ a. a.frame.stamp + second ≤ last_second) (merged read) → (p : PortRow) → Contains t.ports p
    → AreReadable 0 (output_of t (merged read) p) × All IsWithinLimit (output_of t (merged read) p)
