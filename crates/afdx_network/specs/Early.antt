-- How late the frames of captures are, and how late what leaves a switch.
use Rattle.std.specs.Prelude.{ℕ, ◌+◌, ◌≤◌, List, All, Contains}
use Rattle.std.specs.List.{AllByRecursion}
use Rattle.afdx_units.specs.Time.{second, last_second}
use Rattle.afdx_pcap.specs.Record.{Record}
use Rattle.afdx_pcap.specs.Capture.{IsCapture}
use Rattle.afdx_table.specs.declared.rows.PortRow.{PortRow}
use Rattle.afdx_table.specs.Content.{Content}
use Rattle.afdx_table.specs.WellFormed.{IsWellFormed}
use Rattle.afdx_load.specs.Accepted.{IsAccepted}
use Rattle.afdx_core.specs.Merge.{merged}
use Rattle.afdx_session.specs.Texts.{Text}
use Rattle.afdx_session.specs.Output.{output_of}
use Rattle.afdx_session.specs.Outcome.{Results, IsOutcome}

-- a capture, no frame of which came after this instant
pub record ComesBy (last : ℕ) (bytes : List ℕ) : Type 0 where
  pub records : List Record
  pub read : IsCapture bytes records
  pub none_later : All (λ r. r.stamp ≤ last) records

-- if all frames came by an instant that is at least a second before the last second that pcap can hold, what leaves a switch over an
-- accepted table can be read again, and no frame left more than half a second after that instant
abbrev pub RunsLeaveInTime : Type 0
RunsLeaveInTime = (t : Content) (texts : List Text) (results : Results) → IsWellFormed t → IsAccepted t → IsOutcome t texts results
    → (last : ℕ) → last + second ≤ last_second → All (λ text. ComesBy last text.1) texts → All (λ text. ComesBy (last + 500000000) text.1) results.captures

-- no record leaves a port of such a switch more than half a second after that instant
abbrev pub RecordsLeaveInTime : Type 0
RecordsLeaveInTime = (t : Content) (texts : List Text) (results : Results) → IsWellFormed t → IsAccepted t → (outcome : IsOutcome t texts results)
    → (last : ℕ) → last + second ≤ last_second → All (λ text. ComesBy last text.1) texts → (p : PortRow) → Contains t.ports p
    → AllByRecursion (λ r. r.stamp ≤ last + 500000000) (output_of t (merged outcome.read) p)
