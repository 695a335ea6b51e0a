-- What is reported of the ports of a finished run (profile).
use Rattle.std.specs.Prelude.{◌≡◌, ℕ, ◌≤◌, [], Option, Some, IfSome, Contains}
use Rattle.afdx_table.specs.declared.rows.PortRow.{PortRow}
use Rattle.afdx_table.specs.Link.{Link}
use Rattle.afdx_table.specs.WellFormed.{IsWellFormed}
use Rattle.afdx_load.specs.Load.{load_of}
use Rattle.afdx_load.specs.Bounds.{backlog, byte_time}
use Rattle.afdx_load.specs.Accepted.{IsAccepted}
use Rattle.afdx_isolation.specs.Table.{settings_of, bound_of}
use Rattle.afdx_core.specs.Isolation.{IsRun}
use Rattle.afdx_core.specs.State.{Run, port_in, sent_in}
use Rattle.afdx_measure.specs.declared.delays.Delays.{Delays}
use Rattle.afdx_measure.specs.declared.filling.Filling.{Filling}
use Rattle.afdx_measure.specs.Delays.{delays_of, summary_of}
use Rattle.afdx_measure.specs.Peak.{fillings, peak_of}

-- how full the port's buffer was
abbrev pub peak_at : Run → PortRow → Option Filling
peak_at r p = peak_of (fillings (settings_of r.table.latency p) [] (port_in r p).admitted)

-- the delays of a link's copies at the port
abbrev pub delays_at : Run → PortRow → ℕ → Delays
delays_at r p link = summary_of (delays_of link (sent_in r (Some p)))

-- ---- the laws

-- a port's buffer never held more bytes than it has room for
abbrev pub PeakIsWithinTheBuffer : Type 0
PeakIsWithinTheBuffer = (r : Run) (p : PortRow) → IfSome (peak_at r p) (λ f. f.bytes ≤ p.buffer)

-- no delay of a link at the port is greater than the port's bound for the link's priority, and the buffer never held more than any number
-- of bytes that holds what the port's links may ask for at once
pub record IsWithinTheLoad (r : Run) (p : PortRow) : Type 0 where
  pub delays : (l : Link) → Contains r.table.links l → (bound : ℕ) → bound_of (load_of r.table.latency p.speed p.id r.table.links) l.priority ≡ Some bound
      → IfSome (delays_at r p l.id).range (λ range. range.greatest ≤ bound)
  pub buffer : (bytes : ℕ) → backlog (load_of r.table.latency p.speed p.id r.table.links) ≤ byte_time p.speed bytes → IfSome (peak_at r p) (λ f. f.bytes ≤ bytes)

-- each port of an accepted table stays within its load
abbrev pub AcceptedTablesStayWithinTheLoad : Type 0
AcceptedTablesStayWithinTheLoad = (r : Run) → IsRun r → IsWellFormed r.table → IsAccepted r.table → (p : PortRow) → Contains r.table.ports p → IsWithinTheLoad r p
