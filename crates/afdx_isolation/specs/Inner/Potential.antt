-- The potentials of a port: what its line still sends, what waits and what the accounts still hold stay together within
-- what the flows may ask for at once. The first speaks of all work, the second of the high work, the third and the
-- fourth of the end of each item that waits.
use Rattle.std.specs.Prelude.{ℕ, ◌+◌, ◌*◌, ◌≤◌, ◌≡◌, true, false, List, [], ◌∷◌, sum_by}
use Rattle.afdx_port.specs.declared.Settings.{Settings}
use Rattle.afdx_port.specs.declared.Item.{Item}
use Rattle.afdx_port.specs.Service.{came, Event, fate}
use Rattle.afdx_units.specs.Line.{is_high}
use Rattle.afdx_port.specs.Inner.Progress.{LineState}
use Rattle.afdx_port.specs.Inner.Order.{highs, lows}
use Rattle.afdx_port.specs.Inner.Work.{item_cost}
use Rattle.afdx_account.specs.Policing.{parts}
use Rattle.afdx_isolation.specs.Inner.Flow.{Flow, Demand, high_flows, demand_of}

-- the line time of these items together, in ns
abbrev pub costs : Settings → List Item → ℕ
costs s items = sum_by (item_cost s) items

-- Q holds of the end of each item, if they are sent one right after the other from `start` on
abbrev pub Ahead : Settings → (ℕ → Item → Type 0) → ℕ → List Item → Type 0
Ahead s Q start [] = Unit {0}
Ahead s Q start (y ∷ items) = Q (start + item_cost s y) y × Ahead s Q (start + item_cost s y) items

-- a high item that ends by `end` does so within the high bursts and one low item; n is the number of parts of a nanosecond
abbrev pub HighEnds : ℕ → Settings → Demand → ℕ → Item → Type 0
HighEnds n s demand end y = n * end ≤ n * (came s y + demand.low_largest) + demand.high_burst

-- a low item that would end at `end` if no high one came after `now`: the time from its queueing to that end, and the `high_level` that
-- the high accounts hold, are within all bursts and what the high accounts were credited since
abbrev pub LowEnds : ℕ → Settings → Demand → ℕ → ℕ → ℕ → Item → Type 0
LowEnds n s demand now high_level end y = n * end + high_level + demand.high_rate * came s y ≤ n * came s y + demand.high_rate * now + demand.burst

-- what follows for an item that ends by `end`, whatever comes later
abbrev pub EndsBy : ℕ → Settings → Demand → ℕ → Item → Type 0
EndsBy n s demand end y = (is_high y.priority ≡ true → HighEnds n s demand end y)
    × (is_high y.priority ≡ false → n * end + demand.high_rate * came s y ≤ n * came s y + demand.high_rate * end + demand.burst)

-- the potentials at `now`, if the line starts its next item at `start`, `high` and `low` wait, and the accounts of all
-- flows and of the high ones hold line time of `level` and `high_level` parts
pub record IsWithinPotentials (n : ℕ) (s : Settings) (demand : Demand) (now start level high_level : ℕ) (high low : List Item) : Type 0 where
  pub all_work : n * (start + costs s high + costs s low) + level ≤ n * now + demand.burst
  pub high_work : n * (start + costs s high) + high_level ≤ n * (now + demand.low_largest) + demand.high_burst
  pub low_ends : Ahead s (LowEnds n s demand now high_level) (start + costs s high) low
  pub high_ends : Ahead s (HighEnds n s demand) start high

-- the line time that the accounts of these flows hold, in parts of a nanosecond
abbrev pub held : (Flow → ℕ) → List Flow → ℕ
held level flows = sum_by (λ flow. flow.weight * level flow) flows

-- the potentials of a line
abbrev pub KeepsPotentials : Settings → List Flow → ℕ → (Flow → ℕ) → LineState → Type 0
KeepsPotentials s flows now level line =
    IsWithinPotentials parts s (demand_of s flows) now line.free (held level flows) (held level (high_flows flows)) (highs line.waiting) (lows line.waiting)

-- the event lies at some instant, no sooner than its item came, and Q holds of its end if it is sent there
pub record BeginsAs (s : Settings) (Q : ℕ → Item → Type 0) (event : Event) : Type 0 where
  pub at : ℕ
  pub item : Item
  pub is : event ≡ fate s at item
  pub since : came s item ≤ at
  pub ends : Q (at + item_cost s item) item
