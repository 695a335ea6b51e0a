-- What holds of a port over whose lines frames come one after the other, whatever arrives.
use Rattle.std.specs.Prelude.{ℕ, ◌+◌, ◌*◌, ◌≤◌, ◌≡◌, List, map, All, Contains}
use Rattle.afdx_units.specs.declared.line.Priority.{Priority}
use Rattle.afdx_units.specs.Line.{tick_of}
use Rattle.afdx_account.specs.Policing.{parts}
use Rattle.afdx_port.specs.declared.Settings.{Settings}
use Rattle.afdx_port.specs.declared.Item.{Item}
use Rattle.afdx_port.specs.Service.{item_of, service}
use Rattle.afdx_port.specs.Admission.{admitted}
use Rattle.afdx_isolation.specs.Inner.Flow.{Flow, Demand, IsWithinRate, bound}
use Rattle.afdx_isolation.specs.Arrivals.{own}
use Rattle.afdx_isolation.specs.Inner.Arrivals.{passed, feed_of}
use Rattle.afdx_isolation.specs.Inner.Lines.{Line, AreOnLines, KeepToLines, AreEnough, demand_by}
use Rattle.afdx_isolation.specs.Inner.Claims.{Arrive, IsTimely}

-- a port that can give what its flows ask for, over these lines, with these bursts
pub record CarriesLines (s : Settings) (flows : List Flow) (lines : List Line) (burst high_burst : ℕ) : Type 0 where
  pub rate : IsWithinRate s flows
  pub on_lines : AreOnLines lines flows
  pub enough : AreEnough s flows lines burst high_burst
  pub buffer : burst + parts * (demand_by s flows burst high_burst).largest ≤ parts * (tick_of s.speed * s.buffer)
  pub delay : (priority : Priority) → All (λ (flow : Flow). flow.priority ≡ priority → bound (demand_by s flows burst high_burst) priority ≤ s.max_delay) flows

-- a port isolates its flows, with the bounds of this demand
pub record IsIsolatedBy (s : Settings) (flows : List Flow) (demand : Demand) (arrivals : List Item) : Type 0 where
  pub none_full : admitted s (feed_of flows arrivals) ≡ feed_of flows arrivals
  pub timely : All (IsTimely s demand) (service s 0 (admitted s (feed_of flows arrivals)))
  pub exactly_passed : (flow : Flow) → Contains flows flow
      → own flow.id (map item_of (service s 0 (admitted s (feed_of flows arrivals)))) ≡ passed flow arrivals

-- if frames come one after the other over each line of which that is known, the lesser bursts are enough
abbrev pub LinesIsolate : Type 0
LinesIsolate = (s : Settings) (flows : List Flow) (lines : List Line) (burst high_burst : ℕ) (arrivals : List Item) → Arrive s flows arrivals → KeepToLines lines arrivals
    → CarriesLines s flows lines burst high_burst → IsIsolatedBy s flows (demand_by s flows burst high_burst) arrivals
