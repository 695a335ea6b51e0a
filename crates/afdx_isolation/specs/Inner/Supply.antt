-- What may still come to a port, by each later instant, and how what waits stays within it. As the potentials, but for each window:
-- a supply is a function of the instant at which a window ends, and does not grow while time passes.
use Rattle.std.specs.Prelude.{ℕ, ◌+◌, ◌-◌, ◌*◌, ◌≤◌, ◌≡◌, true, List, All}
use Rattle.afdx_port.specs.declared.Settings.{Settings}
use Rattle.afdx_port.specs.declared.Item.{Item}
use Rattle.afdx_port.specs.Service.{service}
use Rattle.afdx_units.specs.Line.{is_high}
use Rattle.afdx_port.specs.Inner.Progress.{LineState}
use Rattle.afdx_port.specs.Inner.Course.{line_at}
use Rattle.afdx_port.specs.Inner.Order.{InOrder, highs, lows}
use Rattle.afdx_port.specs.Inner.Work.{item_cost, HaveCome}
use Rattle.afdx_account.specs.Policing.{parts}
use Rattle.afdx_isolation.specs.Inner.Flow.{Flow, Demand}
use Rattle.afdx_isolation.specs.Inner.Account.{IsOfAFlow}
use Rattle.afdx_isolation.specs.Inner.Potential.{costs, Ahead, HighEnds, LowEnds, EndsBy, BeginsAs}

-- what may come, in parts of a nanosecond of the port's line: of all flows by each instant, of the high ones, and what the accounts
-- of the high ones hold
pub record Supply : Type 0 where
  pub all : ℕ → ℕ
  pub high : ℕ → ℕ
  pub high_level : ℕ

-- at `now`, if the line starts its next item at `start`, and the high items `first` and the low items `second` wait: by each later
-- instant the work and what may come are no more than the line sends until then, and the burst
pub record IsWithinSupply (n : ℕ) (s : Settings) (demand : Demand) (now start : ℕ) (u : Supply) (first second : List Item) : Type 0 where
  pub all_work : (v : ℕ) → now ≤ v → n * (start + costs s first + costs s second) + u.all v ≤ n * v + demand.burst
  pub high_work : (v : ℕ) → now ≤ v → n * (start + costs s first) + u.high v ≤ n * (v + demand.low_largest) + demand.high_burst
  pub low_ends : Ahead s (LowEnds n s demand now u.high_level) (start + costs s first) second
  pub high_ends : Ahead s (HighEnds n s demand) start first

-- what waits at a port's line as it stands is within the supply
abbrev pub KeepsSupply : Settings → Demand → ℕ → Supply → LineState → Type 0
KeepsSupply s demand now u line = IsWithinSupply parts s demand now line.free u (highs line.waiting) (lows line.waiting)

-- from `now` to a later instant the supply by each instant after that does not grow; there it is within what the line sends from there
-- on, and the bursts
pub record GoesOnTo (n : ℕ) (demand : Demand) (now to : ℕ) (u w : Supply) : Type 0 where
  pub all_falls : (v : ℕ) → to ≤ v → w.all v ≤ u.all v
  pub high_falls : (v : ℕ) → to ≤ v → w.high v ≤ u.high v
  pub level_grows : w.high_level ≤ u.high_level + demand.high_rate * (to - now)
  pub all_covered : (v : ℕ) → to ≤ v → n * to + w.all v ≤ n * v + demand.burst
  pub high_covered : (v : ℕ) → to ≤ v → n * to + w.high v ≤ n * v + demand.high_burst

-- an item takes its line time from the supply
pub record IsTakenFrom (n : ℕ) (s : Settings) (now : ℕ) (x : Item) (u w : Supply) : Type 0 where
  pub all_pays : (v : ℕ) → now ≤ v → n * item_cost s x + w.all v ≤ u.all v
  pub high_pays : is_high x.priority ≡ true → (v : ℕ) → now ≤ v → n * item_cost s x + w.high v ≤ u.high v
  pub level_pays : is_high x.priority ≡ true → n * item_cost s x + w.high_level ≤ u.high_level
  pub high_falls : (v : ℕ) → now ≤ v → w.high v ≤ u.high v
  pub level_falls : w.high_level ≤ u.high_level
  pub part : w.high_level ≤ w.all now

-- what is true at `now` if these items were admitted
pub record IsKeptSupply (s : Settings) (flows : List Flow) (demand : Demand) (items : List Item) (now : ℕ) (u : Supply) : Type 0 where
  pub come : HaveCome s now items
  pub of_flows : All (IsOfAFlow flows) items
  pub in_order : InOrder s items
  pub supply : KeepsSupply s demand now u (line_at s now items)
  pub ends : All (BeginsAs s (EndsBy parts s demand)) (service s 0 items)
