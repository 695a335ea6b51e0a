-- What the refusal of a load shows.
use Rattle.std.specs.Prelude.{ℕ, Option, Some}
use Rattle.afdx_table.specs.declared.rows.PortRow.{PortRow}
use Rattle.afdx_load.specs.Load.{Load}
use Rattle.afdx_account.specs.Policing.{parts}
use Rattle.afdx_load.specs.Bounds.{high_bound, low_bound, backlog, byte_time}
use Rattle.afdx_load.specs.declared.fault.Rule.{Rule}
use Rattle.afdx_load.specs.declared.fault.Rule.TheVariants.{Rate, Buffer, HighDelay, LowDelay}

-- what a load needs by a rule, if the rule speaks of it
abbrev pub need_of : Rule → Load → Option ℕ
need_of Rate load = Some load.rate
need_of Buffer load = Some (backlog load)
need_of HighDelay load = high_bound load
need_of LowDelay load = low_bound load

-- what a port can give by a rule
abbrev pub limit_of : Rule → PortRow → ℕ
limit_of Rate row = parts
limit_of Buffer row = byte_time row.speed row.buffer
limit_of HighDelay row = row.max_delay
limit_of LowDelay row = row.max_delay
