-- The links that lead to one output port, what they may ask of it, and the bounds that follow (profile).
use Rattle.std.specs.Prelude.{ℕ, ◌+◌, ◌-◌, ◌*◌, ◌/◌, ◌<◌, ◌≤◌, ◌≡◌, max, not, filter, List, [], ◌∷◌, sum_by, All, Contains}
use Rattle.afdx_units.specs.declared.line.Priority.{Priority}
use Rattle.afdx_units.specs.declared.line.Priority.TheVariants.{High, Low}
use Rattle.afdx_units.specs.Line.{least_size, cost_of, tick_of, is_high}
use Rattle.afdx_account.specs.Policing.{Terms, parts}
use Rattle.afdx_port.specs.declared.Settings.{Settings}

-- a virtual link as an output port sees it: the terms by which it is policed, the line time that a unit of them
-- is worth on this port's line, in parts of a nanosecond, and its largest frame in bytes
pub record Flow : Type 0 where
  pub id : ℕ
  pub terms : Terms
  pub weight : ℕ
  pub largest : ℕ
  pub priority : Priority

-- the price of each frame pays for its line time, and units are credited
pub record IsPaidFor (s : Settings) (flow : Flow) : Type 0 where
  pub pays : (size : ℕ) → least_size ≤ size → size ≤ flow.largest → parts * cost_of s.speed size ≤ flow.weight * flow.terms.price size
  pub credited : 0 < flow.weight * flow.terms.rate

-- the flows of high priority
abbrev pub high_flows : List Flow → List Flow
high_flows flows = filter (λ flow. is_high flow.priority) flows

-- the flows of low priority
abbrev pub low_flows : List Flow → List Flow
low_flows flows = filter (λ flow. not (is_high flow.priority)) flows

-- the line time that flows may ask for in each nanosecond, in parts of a ns
abbrev pub rates : List Flow → ℕ
rates flows = sum_by (λ flow. flow.weight * flow.terms.rate) flows

-- the line time that flows may ask for at once, in parts of a ns
abbrev pub bursts : List Flow → ℕ
bursts flows = sum_by (λ flow. flow.weight * flow.terms.cap) flows

-- the line time in nanoseconds of the longest frame of these flows, 0 if there are none
abbrev pub longest : Settings → List Flow → ℕ
longest s [] = 0
longest s (flow ∷ flows) = max (cost_of s.speed flow.largest) (longest s flows)

-- the demand of a port: of all its flows, and of those of one priority; and its latency
pub record Demand : Type 0 where
  pub rate : ℕ
  pub high_rate : ℕ
  pub burst : ℕ
  pub high_burst : ℕ
  pub largest : ℕ
  pub low_largest : ℕ
  pub latency : ℕ

-- what these flows ask of a port with these settings
abbrev pub demand_of : Settings → List Flow → Demand
demand_of s flows = record {
  rate = rates flows;
  high_rate = rates (high_flows flows);
  burst = bursts flows;
  high_burst = bursts (high_flows flows);
  largest = longest s flows;
  low_largest = longest s (low_flows flows);
  latency = s.latency;
}

-- the most nanoseconds from the instant at which a frame is queued to its end: a high frame waits for the high bursts and one
-- low frame that was begun before it came; a low one for all bursts, on the part of the line that the high ones leave
abbrev pub queue_bound : Demand → Priority → ℕ
queue_bound demand High = (demand.high_burst + parts * demand.low_largest) / parts
queue_bound demand Low = demand.burst / (parts - demand.high_rate)

-- the most nanoseconds from the arrival of a frame to its end: one latency more than from its queueing
abbrev pub bound : Demand → Priority → ℕ
bound demand priority = queue_bound demand priority + demand.latency

-- the flows ask for no more than the line gives
abbrev pub IsWithinRate : Settings → List Flow → Type 0
IsWithinRate s flows = (demand_of s flows).rate ≤ parts

-- the buffer holds their bursts and one frame, which keeps its place until its end
abbrev pub HasBuffer : Settings → List Flow → Type 0
HasBuffer s flows = (demand_of s flows).burst + parts * (demand_of s flows).largest ≤ parts * (tick_of s.speed * s.buffer)

-- the bound of a priority, if it has flows, is within the greatest delay
abbrev pub IsWithinDelay : Settings → List Flow → Priority → Type 0
IsWithinDelay s flows priority = All (λ flow. flow.priority ≡ priority → bound (demand_of s flows) priority ≤ s.max_delay) flows

-- a port that can give what its flows ask for
pub record CarriesFlows (s : Settings) (flows : List Flow) : Type 0 where
  pub rate : IsWithinRate s flows
  pub buffer : HasBuffer s flows
  pub high : IsWithinDelay s flows High
  pub low : IsWithinDelay s flows Low

-- no two flows have one number
abbrev pub AreDistinct : List Flow → Type 0
AreDistinct flows = (a b : Flow) → Contains flows a → Contains flows b → a.id ≡ b.id → a ≡ b
