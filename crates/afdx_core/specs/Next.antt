-- When a switch has something to do next.
use Rattle.std.specs.Prelude.{ℕ, ◌≡◌, false, Option, Some, None, Contains, Any}
use Rattle.afdx_units.specs.Time.{is_before}
use Rattle.afdx_table.specs.declared.rows.PortRow.{PortRow}
use Rattle.afdx_port.specs.Content.{due}
use Rattle.afdx_core.specs.State.{Run, port_in}

-- the first instant at which an output port has an event that was not carried out
pub record IsFirstEvent (r : Run) (at : ℕ) : Type 0 where
  pub none_before : (p : PortRow) → Contains r.table.ports p → is_before at (due (port_in r p)) ≡ false
  pub one_then : Any (λ p. due (port_in r p) ≡ Some at) r.table.ports

-- the first instant at which an output port has such an event; if there is none, each event was carried out
abbrev pub IsNextEvent : Run → Option ℕ → Type 0
IsNextEvent r None = (p : PortRow) → Contains r.table.ports p → due (port_in r p) ≡ None
IsNextEvent r (Some at) = IsFirstEvent r at
