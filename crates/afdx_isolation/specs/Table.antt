-- The settings and the bounds of a port, by the rows of a table.
use Rattle.std.specs.Prelude.{◌≡◌, ℕ, ◌+◌, ◌≤◌, Option, Some}
use Rattle.afdx_units.specs.declared.line.Priority.{Priority}
use Rattle.afdx_units.specs.declared.line.Priority.TheVariants.{High, Low}
use Rattle.afdx_units.specs.Line.{cost_of}
use Rattle.afdx_port.specs.declared.Settings.{Settings}
use Rattle.afdx_port.specs.declared.Sent.{Sent}
use Rattle.afdx_table.specs.declared.rows.PortRow.{PortRow}
use Rattle.afdx_table.specs.Content.{Content}
use Rattle.afdx_load.specs.Load.{Load, load_of}
use Rattle.afdx_load.specs.Bounds.{high_bound, low_bound}

-- a port of a switch of this latency
abbrev pub settings_of : ℕ → PortRow → Settings
settings_of latency row = record { speed = row.speed; buffer = row.buffer; max_delay = row.max_delay; latency = latency }

-- the bound of a priority, if the port has links of it and, for low ones, the high ones leave them a part of the line
abbrev pub bound_of : Load → Priority → Option ℕ
bound_of load High = high_bound load
bound_of load Low = low_bound load

-- a sending that ends no sooner than the latency and its line time after its item came, and no later than the port's bound for
-- its priority
pub record IsInBoundAt (t : Content) (row : PortRow) (x : Sent) : Type 0 where
  pub bound : ℕ
  pub bound_is : bound_of (load_of t.latency row.speed row.id t.links) x.item.priority ≡ Some bound
  pub least : x.item.stamp + t.latency + cost_of row.speed x.item.size ≤ x.end
  pub most : x.end ≤ x.item.stamp + bound
