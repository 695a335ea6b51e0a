-- A burst that is enough at the turn of the curves is enough.
use Rattle.std.proofs.Common.{◌≡◌, ℕ, ◌+◌, ◌*◌, ◌-◌, ◌<◌, ◌≤◌, nat_le, true, false, cond, List, [], ◌∷◌, ◌⊎◌, inl, inr, ap, subst, arith, ⊎_elim}
use Rattle.std.specs.Prelude.{Option, Some, None, sum_by}
use Rattle.std.proofs.lemmas.Bool.{cases_Bool, cases_lt, leb-true}
use Rattle.std.proofs.lemmas.Bool.Decides.{nat_tests}
use Rattle.std.proofs.lemmas.List.Sums.{sum_by-cons}
use Rattle.std.proofs.Math.Nat.{mul-le-mul_right}
use Rattle.afdx_serial.specs.Curves.{Straight, straight_at, Curve, lesser_at, curve_at, rate_before_of, rate_after_of, rate_before, rate_after, IsEnoughAt, IsEnough}

more_of : (a : Straight) (u d : ℕ) → straight_at a (u + d) ≡ straight_at a u + a.rate * d
more_of a u d = omega arith

-- up to a window the lesser one rises as it does there, or faster
before_of : (a : Straight) (b : Option Straight) (u d : ℕ) → lesser_at a b u + rate_before_of a b (u + d) * d ≤ lesser_at a b (u + d)
before_of a None u d = omega (arith, more_of a u d)
before_of a (Some b) u d = ⊎_elim
    (λ (is : nat_le (straight_at b (u + d)) (straight_at a (u + d)) ≡ true).
    let le = leb-true (straight_at b (u + d)) (straight_at a (u + d)) is in
    let rate : cond (nat_le (straight_at b (u + d)) (straight_at a (u + d))) b.rate a.rate * d ≡ b.rate * d = ap (λ v. cond v b.rate a.rate * d) is in
    omega (arith, le, rate, more_of b u d))
    (λ (is : nat_le (straight_at b (u + d)) (straight_at a (u + d)) ≡ false).
    let lt = above (straight_at b (u + d)) (straight_at a (u + d)) is in
    let rate : cond (nat_le (straight_at b (u + d)) (straight_at a (u + d))) b.rate a.rate * d ≡ a.rate * d = ap (λ v. cond v b.rate a.rate * d) is in
    omega (arith, lt, rate, more_of a u d))
    (cases_Bool (nat_le (straight_at b (u + d)) (straight_at a (u + d)))) where
      above : (m n : ℕ) → nat_le m n ≡ false → n ≤ m
      above m n h = grind (arith, nat_tests)

-- from a window on it rises as it does there, or slower
after_of : (a : Straight) (b : Option Straight) (u d : ℕ) → lesser_at a b (u + d) ≤ lesser_at a b u + rate_after_of a b u * d
after_of a None u d = omega (arith, more_of a u d)
after_of a (Some b) u d = ⊎_elim
    (λ (is : nat_le (straight_at a u) (straight_at b u) ≡ true).
    let le = leb-true (straight_at a u) (straight_at b u) is in
    let rate : cond (nat_le (straight_at a u) (straight_at b u)) a.rate b.rate * d ≡ a.rate * d = ap (λ v. cond v a.rate b.rate * d) is in
    omega (arith, le, rate, more_of a u d))
    (λ (is : nat_le (straight_at a u) (straight_at b u) ≡ false).
    let lt = above (straight_at a u) (straight_at b u) is in
    let rate : cond (nat_le (straight_at a u) (straight_at b u)) a.rate b.rate * d ≡ b.rate * d = ap (λ v. cond v a.rate b.rate * d) is in
    omega (arith, lt, rate, more_of b u d))
    (cases_Bool (nat_le (straight_at a u) (straight_at b u))) where
      above : (m n : ℕ) → nat_le m n ≡ false → n ≤ m
      above m n h = grind (arith, nat_tests)

before_all : (curves : List Curve) (u d : ℕ) → sum_by (λ c. curve_at c u) curves + sum_by (rate_before (u + d)) curves * d ≤ sum_by (λ c. curve_at c (u + d)) curves
before_all [] u d = omega arith
before_all (c ∷ curves) u d =
    let ih = before_all curves u d in
    let here = before_of c.paid c.brought u d in
    adds _ _ _ _ _ _ _ _ _ d (sum_by-cons (λ c. curve_at c u) c curves) (sum_by-cons (rate_before (u + d)) c curves) (sum_by-cons (λ c. curve_at c (u + d)) c curves) here ih where
      adds : (x r y xs rs ys sx sr sy d : ℕ) → sx ≡ x + xs → sr ≡ r + rs → sy ≡ y + ys → x + r * d ≤ y → xs + rs * d ≤ ys → sx + sr * d ≤ sy
      adds x r y xs rs ys sx sr sy d ex er ey h k = rw (ex, er, ey) (omega (arith, h, k))

after_all : (curves : List Curve) (u d : ℕ) → sum_by (λ c. curve_at c (u + d)) curves ≤ sum_by (λ c. curve_at c u) curves + sum_by (rate_after u) curves * d
after_all [] u d = omega arith
after_all (c ∷ curves) u d =
    let ih = after_all curves u d in
    let here = after_of c.paid c.brought u d in
    adds _ _ _ _ _ _ _ _ _ d (sum_by-cons (λ c. curve_at c u) c curves) (sum_by-cons (rate_after u) c curves) (sum_by-cons (λ c. curve_at c (u + d)) c curves) here ih where
      adds : (x r y xs rs ys sx sr sy d : ℕ) → sx ≡ x + xs → sr ≡ r + rs → sy ≡ y + ys → y ≤ x + r * d → ys ≤ xs + rs * d → sy ≤ sx + sr * d
      adds x r y xs rs ys sx sr sy d ex er ey h k = rw (ex, er, ey) (omega (arith, h, k))

pub turn_is_enough : (n burst turn : ℕ) (curves : List Curve) → (turn ≡ 0) ⊎ (n ≤ sum_by (rate_before turn) curves) → sum_by (rate_after (turn + 1)) curves ≤ n
    → IsEnoughAt n burst curves turn → IsEnoughAt n burst curves (turn + 1) → IsEnough n burst curves
turn_is_enough n burst turn curves fast slow here next window = ⊎_elim
    (λ (lt : turn < window).
    let d = window - (turn + 1) in
    let there : (turn + 1) + d ≡ window = omega (arith, lt) in
    let h = after_all curves (turn + 1) d in
    let gap = mul-le-mul_right d slow in
    let grown : sum_by (λ c. curve_at c ((turn + 1) + d)) curves ≤ n * ((turn + 1) + d) + burst = later n (turn + 1) d burst _ _ _ h next gap in
    subst (λ w. sum_by (λ c. curve_at c w) curves ≤ n * w + burst) there grown)
    (λ (le : window ≤ turn). before' (turn - window) (omega (arith, le)) fast)
    (cases_lt turn window) where
      later : (n q d burst f g r : ℕ) → g ≤ f + r * d → f ≤ n * q + burst → r * d ≤ n * d → g ≤ n * (q + d) + burst
      later n q d burst f g r h next gap = omega (arith, h, next, gap)

      sooner : (n u d burst f g r : ℕ) → f + r * d ≤ g → g ≤ n * (u + d) + burst → n * d ≤ r * d → f ≤ n * u + burst
      sooner n u d burst f g r h here gap = omega (arith, h, here, gap)

      before' : (d : ℕ) → window + d ≡ turn → (turn ≡ 0) ⊎ (n ≤ sum_by (rate_before turn) curves) → sum_by (λ c. curve_at c window) curves ≤ n * window + burst
      before' d there (inl none) = let e : turn ≡ window = omega (arith, none, there) in subst (λ w. sum_by (λ c. curve_at c w) curves ≤ n * w + burst) e here
      before' d there (inr fast) =
          let h = before_all curves window d in
          let fast' : n ≤ sum_by (rate_before (window + d)) curves = subst (λ w. n ≤ sum_by (rate_before w) curves) (Rattle.std.proofs.Common.sym there) fast in
          let here' : sum_by (λ c. curve_at c (window + d)) curves ≤ n * (window + d) + burst =
          subst (λ w. sum_by (λ c. curve_at c w) curves ≤ n * w + burst) (Rattle.std.proofs.Common.sym there) here in
          sooner n window d burst _ _ _ h here' (mul-le-mul_right d fast')

pub bursts_are_enough : (n : ℕ) (curves : List Curve) → sum_by (λ c. c.paid.rate) curves ≤ n → IsEnough n (sum_by (λ c. c.paid.burst) curves) curves
bursts_are_enough n curves slow window =
    let all = paid_all curves window in
    let gap = mul-le-mul_right window slow in
    omega (arith, all, gap) where
      least : (a : Straight) (b : Option Straight) (u : ℕ) → lesser_at a b u ≤ straight_at a u
      least a None u = omega arith
      least a (Some b) u = omega arith

      adds : (x r y xs rs ys sx sr sy u : ℕ) → sx ≡ x + xs → sr ≡ r + rs → sy ≡ y + ys → y ≤ x + r * u → ys ≤ xs + rs * u → sy ≤ sx + sr * u
      adds x r y xs rs ys sx sr sy u ex er ey h k = rw (ex, er, ey) (omega (arith, h, k))

      paid_all : (curves : List Curve) (u : ℕ) → sum_by (λ c. curve_at c u) curves ≤ sum_by (λ c. c.paid.burst) curves + sum_by (λ c. c.paid.rate) curves * u
      paid_all [] u = omega arith
      paid_all (c ∷ curves) u =
          adds _ _ _ _ _ _ _ _ _ u (sum_by-cons (λ c. c.paid.burst) c curves) (sum_by-cons (λ c. c.paid.rate) c curves) (sum_by-cons (λ c. curve_at c u) c curves) (least c.paid c.brought u)
          (paid_all curves u)
