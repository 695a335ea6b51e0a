-- Stages of a way whose bounds are those of lesser bursts, if frames at some of a switch's ports come one after the other, as they do over
-- a wire.
use Rattle.std.specs.Prelude.{◌≡◌, ℕ, true, List, map, Option, Some, Contains}
use Rattle.afdx_table.specs.declared.rows.PortRow.{PortRow}
use Rattle.afdx_table.specs.Link.{Link, leads_to}
use Rattle.afdx_table.specs.Content.{Content}
use Rattle.afdx_table.specs.WellFormed.{IsWellFormed}
use Rattle.afdx_load.specs.Load.{load_of}
use Rattle.afdx_load.specs.Accepted.{IsAccepted}
use Rattle.afdx_isolation.specs.Table.{bound_of}
use Rattle.afdx_isolation.specs.Inner.LineTable.{lesser, AreLesser}
use Rattle.afdx_core.specs.Merge.{Arrival, merged, Capture}
use Rattle.afdx_session.specs.Texts.{Text}
use Rattle.afdx_session.specs.Output.{output_of}
use Rattle.afdx_session.specs.Outcome.{Results, IsOutcome}
use Rattle.afdx_session.specs.Lined.{RecordsKeepToLine, CapturesKeepToLines}
use Rattle.afdx_network.specs.Way.{Node, IsStage, delayed}

-- a switch that read these captures, and what left it
abbrev pub node_after : Content → List Capture → Node
node_after t read = record { table = t; read = read; out = output_of t (merged read) }

-- a stage there, with the bound of lesser bursts that are enough for the lines of the switch's ports
abbrev pub LinedStages : Type 0
LinedStages = (t : Content) (texts : List Text) (results : Results) → IsWellFormed t → IsAccepted t → (outcome : IsOutcome t texts results)
    → (rounding_at : ℕ → Option ℕ) → CapturesKeepToLines t outcome.read rounding_at → (p : PortRow) → Contains t.ports p → (burst high_burst : ℕ) → AreLesser t p rounding_at burst high_burst
    → (l : Link) → Contains t.links l → leads_to p.id l ≡ true → (bound : ℕ) → bound_of (lesser (load_of t.latency p.speed p.id t.links) burst high_burst) l.priority ≡ Some bound
    → IsStage (record { node = node_after t outcome.read; link = l; port = p; least = t.latency; bound = bound })

-- what left a port, so much later at the end of a wire, keeps to the line of that speed, whatever the table and whatever came
abbrev pub WiresKeepToLines : Type 0
WiresKeepToLines = (t : Content) (arrivals : List Arrival) (p : PortRow) (cable : ℕ) → RecordsKeepToLine p.speed (map (delayed cable) (output_of t arrivals p))
