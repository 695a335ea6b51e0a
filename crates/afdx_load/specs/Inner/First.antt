-- The fault that a check names: its rule is broken at its port, no rule before it is, and none is at a lower port.
use Rattle.std.specs.Prelude.{◌≡◌, ◌↔◌, ℕ, ◌<◌, Contains, Some}
use Rattle.afdx_table.specs.declared.rows.PortRow.{PortRow}
use Rattle.afdx_table.specs.Content.{Content}
use Rattle.afdx_table.specs.WellFormed.{IsWellFormed}
use Rattle.afdx_load.specs.Load.{load_of}
use Rattle.afdx_load.specs.Accepted.{first_fault}
use Rattle.afdx_load.specs.declared.fault.Rule.{Rule}
use Rattle.afdx_load.specs.declared.fault.Rule.TheVariants.{Rate, Buffer, HighDelay, LowDelay}
use Rattle.afdx_load.specs.declared.fault.LoadFault.{LoadFault}
use Rattle.afdx_load.specs.First.{limit_of, need_of}

-- the port's load breaks the rule
abbrev pub Breaks : Content → PortRow → Rule → Type 0
Breaks c row rule = (need : ℕ) × (need_of rule (load_of c.latency row.speed row.id c.links) ≡ Some need) × (limit_of rule row < need)

-- profile: the order of the rules
abbrev pub place_of : Rule → ℕ
place_of Rate = 0
place_of Buffer = 1
place_of HighDelay = 2
place_of LowDelay = 3

-- the fault's rule is broken at its port, no rule before it is, and none is at a lower port
pub record IsFirstFault (c : Content) (f : LoadFault) : Type 0 where
  pub row : PortRow
  pub is_port : Contains c.ports row
  pub number : row.id ≡ f.port
  -- the rule is broken there, and this is the need and the limit
  pub need : need_of f.rule (load_of c.latency row.speed row.id c.links) ≡ Some f.need
  pub limit : limit_of f.rule row ≡ f.limit
  pub above : f.limit < f.need
  pub no_rule_before : (rule : Rule) → place_of rule < place_of f.rule → Breaks c row rule → ⊥
  pub no_lower_port : (other : PortRow) → Contains c.ports other → other.id < row.id → (rule : Rule) → Breaks c other rule → ⊥

-- the fault that a check names is the one that is so
abbrev pub FaultIsTheFirst : Type 0
FaultIsTheFirst = (c : Content) (f : LoadFault) → IsWellFormed c → (first_fault c.latency c.links c.ports ≡ Some f) ↔ IsFirstFault c f
