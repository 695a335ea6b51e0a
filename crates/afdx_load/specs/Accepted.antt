-- Tables whose ports can give what their links ask for, and the first fault of the others (profile).
use Rattle.std.specs.Prelude.{ℕ, ◌+◌, ◌<◌, ◌≤◌, nat_lt, List, [], ◌∷◌, Option, Some, None, IfSome, All, if◌then◌else◌}
use Rattle.std.specs.Option.{option_or}
use Rattle.afdx_table.specs.declared.rows.PortRow.{PortRow}
use Rattle.afdx_table.specs.Link.{Link}
use Rattle.afdx_table.specs.Content.{Content}
use Rattle.afdx_load.specs.Load.{Load, load_of}
use Rattle.afdx_account.specs.Policing.{parts}
use Rattle.afdx_load.specs.Bounds.{high_bound, low_bound, backlog, byte_time}
use Rattle.afdx_load.specs.declared.fault.Rule.{Rule}
use Rattle.afdx_load.specs.declared.fault.Rule.TheVariants.{Rate, Buffer, HighDelay, LowDelay}
use Rattle.afdx_load.specs.declared.fault.LoadFault.{LoadFault}

-- the port can give this load: the links ask for no more than the line, the buffer holds what may wait and be on the line, and each
-- priority's bound, if it has one, is within the greatest delay
pub record Carries (row : PortRow) (load : Load) : Type 0 where
  pub rate : load.rate ≤ parts
  pub buffer : backlog load ≤ byte_time row.speed row.buffer
  pub high : IfSome (high_bound load) (λ bound. bound ≤ row.max_delay)
  pub low : IfSome (low_bound load) (λ bound. bound ≤ row.max_delay)

-- each port with links carries their load
abbrev pub IsAccepted : Content → Type 0
IsAccepted c = All (λ row. let load = load_of c.latency row.speed row.id c.links in 0 < load.highs + load.lows → Carries row load) c.ports

-- the fault of a need, if it is past its limit
abbrev pub past : ℕ → Rule → ℕ → ℕ → Option LoadFault
past port rule limit need = if nat_lt limit need then Some (record { port = port; rule = rule; need = need; limit = limit }) else None

-- the fault of a need that may be missing, if it is past its limit
abbrev pub past_bound : ℕ → Rule → ℕ → Option ℕ → Option LoadFault
past_bound port rule limit None = None
past_bound port rule limit (Some need) = past port rule limit need

-- the fault of the first rule that a port's load breaks
unfoldable pub fault_at : PortRow → Load → Option LoadFault
fault_at row load =
    option_or (option_or (option_or
    (past row.id Rate parts load.rate)
    (past row.id Buffer (byte_time row.speed row.buffer) (backlog load)))
    (past_bound row.id HighDelay row.max_delay (high_bound load)))
    (past_bound row.id LowDelay row.max_delay (low_bound load))

-- the fault of the first port that has one; a table's ports rise, so that it is the lowest
abbrev pub first_fault : ℕ → List Link → List PortRow → Option LoadFault
first_fault latency links [] = None
first_fault latency links (row ∷ rows) = option_or (fault_at row (load_of latency row.speed row.id links)) (first_fault latency links rows)
