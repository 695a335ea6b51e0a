-- The rules that a port's load breaks, all of them (profile).
use Rattle.std.specs.Prelude.{◌≡◌, ◌↔◌, ◌+◌, ◌<◌, nat_lt, Bool, false, List, [], ◌∷◌, filter, All}
use Rattle.std.specs.Option.{option_map_or}
use Rattle.afdx_table.specs.declared.rows.PortRow.{PortRow}
use Rattle.afdx_table.specs.Content.{Content}
use Rattle.afdx_load.specs.Load.{Load, load_of}
use Rattle.afdx_load.specs.Accepted.{IsAccepted}
use Rattle.afdx_load.specs.First.{need_of, limit_of}
use Rattle.afdx_load.specs.declared.fault.Rule.{Rule}
use Rattle.afdx_load.specs.declared.fault.Rule.TheVariants.{Rate, Buffer, HighDelay, LowDelay}

-- the load needs more by this rule than the port can give; a bound that is not there breaks nothing
abbrev pub is_broken : PortRow → Load → Rule → Bool
is_broken row load rule = option_map_or (λ need. nat_lt (limit_of rule row) need) (need_of rule load) false

-- the rules that a port's load breaks, in their order
abbrev pub broken_rules : PortRow → Load → List Rule
broken_rules row load = filter (is_broken row load) (Rate ∷ Buffer ∷ HighDelay ∷ LowDelay ∷ [])

-- a table is accepted exactly if each port with links breaks none
abbrev pub AcceptedWhereEachPortFits : Type 0
AcceptedWhereEachPortFits = (c : Content) →
    IsAccepted c ↔ All (λ row. let load = load_of c.latency row.speed row.id c.links in 0 < load.highs + load.lows → broken_rules row load ≡ []) c.ports
