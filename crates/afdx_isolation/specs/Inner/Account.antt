-- The accounts of a port's flows, as far as the potentials know them: levels that grow, and are debited.
use Rattle.std.specs.Prelude.{ℕ, ◌+◌, ◌*◌, ◌≤◌, ◌≡◌, nat_eq, if◌then◌else◌, List, All, Contains}
use Rattle.afdx_units.specs.Line.{least_size}
use Rattle.afdx_port.specs.declared.Item.{Item}
use Rattle.afdx_isolation.specs.Inner.Flow.{Flow}

-- no account holds more than its cap
abbrev pub AreWithinCaps : List Flow → (Flow → ℕ) → Type 0
AreWithinCaps flows level = All (λ flow. level flow ≤ flow.terms.cap) flows

-- in d nanoseconds each level grows by its rate at most, up to its cap
abbrev pub Grow : List Flow → ℕ → (Flow → ℕ) → (Flow → ℕ) → Type 0
Grow flows d level after = All (λ flow. (after flow ≤ flow.terms.cap) × (after flow ≤ level flow + flow.terms.rate * d)) flows

-- what an item takes from a flow's account: its price if it is of that flow, else nothing
abbrev pub charge : Item → Flow → ℕ
charge x flow = if nat_eq flow.id x.link then flow.terms.price x.size else 0

-- each account is debited what the item takes from it, or more
abbrev pub AreDebited : List Flow → Item → (Flow → ℕ) → (Flow → ℕ) → Type 0
AreDebited flows x level after = All (λ flow. after flow + charge x flow ≤ level flow) flows

-- an item of one of the flows
pub record IsOfAFlow (flows : List Flow) (x : Item) : Type 0 where
  pub flow : Flow
  pub among : Contains flows flow
  pub same : flow.id ≡ x.link
  pub priority : flow.priority ≡ x.priority
  pub least : least_size ≤ x.size
  pub largest : x.size ≤ flow.largest
