-- The least burst that is enough for curves (network calculus: the greatest vertical deviation of a concave arrival curve from a line).
use Rattle.std.specs.Prelude.{ℕ, ◌+◌, ◌-◌, ◌*◌, ◌/◌, ◌≤◌, min, max, Option, Some, None, List, [], ◌∷◌, sum_by}
use Rattle.std.specs.Int.{abs_diff}
use Rattle.afdx_serial.specs.Curves.{Straight, Curve, curve_at, IsEnough}

-- two straight lines that cross do so between this window and the next one
abbrev pub crossing : Straight → Option Straight → ℕ
crossing a None = 0
crossing a (Some b) = abs_diff a.burst b.burst / abs_diff a.rate b.rate

-- the window after which a curve turns
abbrev pub turn_of : Curve → ℕ
turn_of c = crossing c.paid c.brought

-- by how much these curves are above a line of `n` in each nanosecond
unfoldable pub above : ℕ → List Curve → ℕ → ℕ
above n curves window = sum_by (λ c. curve_at c window) curves - n * window

-- the greatest value on both sides of the turns of these curves
abbrev pub greatest_beside : (ℕ → ℕ) → List Curve → ℕ
greatest_beside f [] = 0
greatest_beside f (c ∷ curves) = max (max (f (turn_of c)) (f (turn_of c + 1))) (greatest_beside f curves)

-- what is paid for at once, in parts of a ns
abbrev pub paid_burst : List Curve → ℕ
paid_burst curves = sum_by (λ c. c.paid.burst) curves

-- what is paid for in each ns, in parts of a ns
abbrev pub paid_rate : List Curve → ℕ
paid_rate curves = sum_by (λ c. c.paid.rate) curves

-- the most by which these curves are above the line at the beginning or beside a turn
abbrev pub most_above : ℕ → List Curve → ℕ
most_above n curves = max (above n curves 0) (greatest_beside (above n curves) curves)

-- profile: the lesser of that and of what is paid for at once. Both are enough if no more is paid for in the long run than n: a sum of
-- concave curves is straight from one turn to the next
abbrev pub least_burst : ℕ → List Curve → ℕ
least_burst n curves = min (paid_burst curves) (most_above n curves)

-- this burst is enough for the curves, and no lesser one is
pub record IsLeastBurst (n burst : ℕ) (curves : List Curve) : Type 0 where
  pub enough : IsEnough n burst curves
  pub least : (other : ℕ) → IsEnough n other curves → burst ≤ other
