-- The same on the rows of a table whose load is accepted: over the lines of its ports.
use Rattle.std.specs.Prelude.{◌≡◌, ℕ, ◌+◌, ◌≤◌, Bool, ◌&&◌, nat_eq, Option, Some, option_map, List, map, All, Contains}
use Rattle.std.specs.List.{list_any}
use Rattle.afdx_units.specs.Line.{cost_of}
use Rattle.afdx_port.specs.declared.Item.{Item}
use Rattle.afdx_port.specs.declared.Sent.{Sent}
use Rattle.afdx_port.specs.Service.{sent_of}
use Rattle.afdx_port.specs.Admission.{admitted}
use Rattle.afdx_port.specs.Content.{Content as PortContent, done}
use Rattle.afdx_table.specs.declared.rows.PortRow.{PortRow}
use Rattle.afdx_table.specs.Link.{Link}
use Rattle.afdx_table.specs.Content.{Content}
use Rattle.afdx_load.specs.Load.{Load, load_of}
use Rattle.afdx_isolation.specs.Inner.Arrivals.{feed_of}
use Rattle.afdx_isolation.specs.Inner.Lines.{Line, KeepToLines, AreEnough}
use Rattle.afdx_isolation.specs.Inner.Table.{flows_at, ArriveAt}
use Rattle.afdx_isolation.specs.Table.{bound_of, settings_of}

-- a link of this number comes in at the port
abbrev pub comes_in : List Link → (port id : ℕ) → Bool
comes_in links port id = list_any (λ l. nat_eq l.id id && nat_eq l.from port) links

-- the line of a port: the links that come in there, and whether frames are known to come over it one after the other, to within so many ns
abbrev pub line_at : List Link → (rounding_at : ℕ → Option ℕ) → PortRow → Line
line_at links rounding_at q =
    record { has = comes_in links q.id; known = option_map (λ rounding. record { speed = q.speed; rounding = rounding }) (rounding_at q.id) }

-- the lines of all ports of a table
abbrev pub lines_of : Content → (ℕ → Option ℕ) → List Line
lines_of t rounding_at = map (line_at t.links rounding_at) t.ports

-- a load with these bursts in the place of its own
abbrev pub lesser : Load → (burst high_burst : ℕ) → Load
lesser load burst high_burst = record load { burst = burst; high_burst = high_burst }

-- lesser bursts that are enough at a port
pub record AreLesser (t : Content) (row : PortRow) (rounding_at : ℕ → Option ℕ) (burst high_burst : ℕ) : Type 0 where
  pub enough : AreEnough (settings_of t.latency row) (flows_at t row) (lines_of t rounding_at) burst high_burst
  pub all_less : burst ≤ (load_of t.latency row.speed row.id t.links).burst
  pub high_less : high_burst ≤ (load_of t.latency row.speed row.id t.links).high_burst

-- a sending within the bound of the lesser load
pub record IsInLesserBound (t : Content) (row : PortRow) (burst high_burst : ℕ) (x : Sent) : Type 0 where
  pub bound : ℕ
  pub bound_is : bound_of (lesser (load_of t.latency row.speed row.id t.links) burst high_burst) x.item.priority ≡ Some bound
  pub least : x.item.stamp + t.latency + cost_of row.speed x.item.size ≤ x.end
  pub most : x.end ≤ x.item.stamp + bound

-- if frames come over lines as they are said to, whatever a port sends is within such a bound
abbrev pub AcceptedLinesKeepBounds : Type 0
AcceptedLinesKeepBounds = (t : Content) (arrivals : List Item) → ArriveAt t arrivals → (row : PortRow) → Contains t.ports row
    → (rounding_at : ℕ → Option ℕ) → KeepToLines (lines_of t rounding_at) arrivals → (burst high_burst : ℕ) → AreLesser t row rounding_at burst high_burst
    → (c : PortContent) → c.settings ≡ settings_of t.latency row → c.admitted ≡ admitted (settings_of t.latency row) (feed_of (flows_at t row) arrivals)
    → All (IsInLesserBound t row burst high_burst) (sent_of (done c))
