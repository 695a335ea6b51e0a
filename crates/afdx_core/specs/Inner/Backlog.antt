-- What a port's buffer holds, whatever comes.
use Rattle.std.specs.Prelude.{ℕ, ◌≤◌, [], Contains}
use Rattle.afdx_table.specs.declared.rows.PortRow.{PortRow}
use Rattle.afdx_table.specs.WellFormed.{IsWellFormed}
use Rattle.afdx_load.specs.Accepted.{IsAccepted}
use Rattle.afdx_load.specs.Bounds.{backlog, byte_time}
use Rattle.afdx_load.specs.Load.{load_of}
use Rattle.afdx_port.specs.Admission.{AllFitIn}
use Rattle.afdx_isolation.specs.Table.{settings_of}
use Rattle.afdx_core.specs.State.{Run, port_in}
use Rattle.afdx_core.specs.Isolation.{IsRun}

-- whatever number of bytes holds all that a port's links may ask for at once, its buffer never held more
abbrev pub BuffersHoldTheBacklog : Type 0
BuffersHoldTheBacklog = (r : Run) → IsRun r → IsWellFormed r.table → IsAccepted r.table → (p : PortRow) → Contains r.table.ports p
    → (bytes : ℕ) → backlog (load_of r.table.latency p.speed p.id r.table.links) ≤ byte_time p.speed bytes → AllFitIn bytes (settings_of r.table.latency p) [] (port_in r p).admitted
