-- Laws over least bursts.
use Rattle.std.specs.Prelude.{◌≡◌, ℕ, ◌≤◌, Option, Some, List, All}
use Rattle.std.specs.List.{AllZip}
use Rattle.afdx_serial.specs.Curves.{Curve, curve_at}
use Rattle.afdx_table.specs.declared.rows.PortRow.{PortRow}
use Rattle.afdx_table.specs.Content.{Content}
use Rattle.afdx_table.specs.WellFormed.{IsWellFormed}
use Rattle.afdx_load.specs.Bounds.{high_bound, low_bound}
use Rattle.afdx_load.specs.Load.{Load, load_of}
use Rattle.afdx_grouping.specs.Burst.{paid_burst, paid_rate, least_burst, IsLeastBurst}
use Rattle.afdx_account.specs.Policing.{parts}
use Rattle.afdx_grouping.specs.Groups.{all_curves, high_curves, lesser_load, lesser_bounds}
use Rattle.afdx_grouping.specs.Scatter.{scattered}

-- if no more is paid for in the long run than n, the least burst is enough, and no lesser one is
abbrev pub BurstsAreLeast : Type 0
BurstsAreLeast = (n : ℕ) (curves : List Curve) → paid_rate curves ≤ n → IsLeastBurst n (least_burst n curves) curves

-- a least burst is no more than what is paid for at once
abbrev pub NoneIsMoreThanPaidFor : Type 0
NoneIsMoreThanPaidFor = (n : ℕ) (curves : List Curve) → least_burst n curves ≤ paid_burst curves

-- no more is paid for of a port's groups than its links ask for if latencies differ as much: in the long run, and at once, of all and of
-- the high ones
pub record ArePaidForOnce (scatter : ℕ) (t : Content) (rounding_at : ℕ → Option ℕ) (to : PortRow) : Type 0 where
  pub rate : paid_rate (all_curves scatter t rounding_at to) ≤ (load_of t.latency to.speed to.id t.links).rate
  pub high_rate : paid_rate (high_curves scatter t rounding_at to) ≤ (load_of t.latency to.speed to.id t.links).rate
  pub burst : paid_burst (all_curves scatter t rounding_at to) ≤ (scattered scatter (load_of t.latency to.speed to.id t.links)).burst
  pub high_burst : paid_burst (high_curves scatter t rounding_at to) ≤ (scattered scatter (load_of t.latency to.speed to.id t.links)).high_burst

-- no more is paid for of a port's groups than its links ask for, since each of its links is in one group
abbrev pub NoMoreIsPaidFor : Type 0
NoMoreIsPaidFor = (scatter : ℕ) (t : Content) (rounding_at : ℕ → Option ℕ) (to : PortRow) → IsWellFormed t → ArePaidForOnce scatter t rounding_at to

-- a curve brings no more than another one in any window
abbrev pub IsBelow : Curve → Curve → Type 0
IsBelow c d = (window : ℕ) → curve_at c window ≤ curve_at d window

-- curves that bring no more need no more
abbrev pub LesserCurvesNeedLess : Type 0
LesserCurvesNeedLess = (n : ℕ) (curves greater : List Curve) → paid_rate curves ≤ n → paid_rate greater ≤ n → AllZip IsBelow curves greater → least_burst n curves ≤ least_burst n greater

-- a bound is there if the other one is, and no greater
abbrev pub IsNoMore : Option ℕ → Option ℕ → Type 0
IsNoMore bound other = (y : ℕ) → other ≡ Some y → (x : ℕ) × (bound ≡ Some x) × (x ≤ y)

-- each of the two bounds of a load is there if the other load's is, and no greater
pub record AreNoMore (lesser load : Load) : Type 0 where
  pub high : IsNoMore (high_bound lesser) (high_bound load)
  pub low : IsNoMore (low_bound lesser) (low_bound load)

-- the bounds by groups are no greater than those of the port's load
abbrev pub BoundsAreNoMore : Type 0
BoundsAreNoMore = (scatter : ℕ) (t : Content) (rounding_at : ℕ → Option ℕ) (to : PortRow) → IsWellFormed t
    → AreNoMore (lesser_load scatter rounding_at t to) (scattered scatter (load_of t.latency to.speed to.id t.links))

-- if latencies differ by less, the bounds by groups are no greater
abbrev pub LessScatterBoundsNoMore : Type 0
LessScatterBoundsNoMore = (scatter more : ℕ) (t : Content) (rounding_at : ℕ → Option ℕ) (to : PortRow) → IsWellFormed t → scatter ≤ more
    → (load_of t.latency to.speed to.id t.links).rate ≤ parts → AreNoMore (lesser_load scatter rounding_at t to) (lesser_load more rounding_at t to)

-- what is said of ports that the table does not have changes none of its bounds
abbrev pub OnlyPortsCount : Type 0
OnlyPortsCount = (scatter : ℕ) (t : Content) (rounding_at other : ℕ → Option ℕ) → All (λ p. rounding_at p.id ≡ other p.id) t.ports
    → lesser_bounds scatter rounding_at t ≡ lesser_bounds scatter other t
