-- A sum of curves is straight where none of them turns, so that it is the most above a line beside a turn.
use Rattle.std.proofs.Common.{◌≡◌, ◌≢◌, ℕ, ◌+◌, ◌*◌, ◌-◌, ◌/◌, ◌<◌, ◌≤◌, min, max, zero, suc, List, [], ◌∷◌, refl, ap, subst, arith, ⊎_elim}
use Rattle.std.specs.Prelude.{Option, Some, None, sum_by}
use Rattle.std.specs.Int.{abs_diff}
use Rattle.std.proofs.lemmas.Bool.{cases_lt}
use Rattle.std.proofs.lemmas.List.Sums.{sum_by-cons}
use Rattle.std.proofs.Math.Nat.{mul-le-mul_right, mul-le-mul_left, mul-div-le, lt-div-mul-add}
use Rattle.afdx_serial.specs.Curves.{Straight, Curve, lesser_at, curve_at, IsEnough, BurstsAreEnough}
use Rattle.afdx_grouping.specs.Burst.{crossing, turn_of, above, greatest_beside, paid_burst, least_burst, IsLeastBurst}

-- two steps around the window after this one are as long
abbrev pub IsStraightAt : (ℕ → ℕ) → ℕ → Type 0
IsStraightAt f v = f v + f (v + 2) ≡ 2 * f (v + 1)

as_straight : (x y z a b c : ℕ) → x ≡ a → y ≡ b → z ≡ c → a + c ≡ 2 * b → x + z ≡ 2 * y
as_straight x y z a b c p q r h = omega (arith, p, q, r, h)

-- ---- one curve

-- the lesser of two lines
abbrev lesser_of : (p s q r : ℕ) → ℕ → ℕ
lesser_of p s q r w = min (p + s * w) (q + r * w)

-- so many nanoseconds' share of a distance is within it up to the quotient, and past it from the next one on
within : (distance d u : ℕ) → u ≤ distance / d → d * u ≤ distance
within distance d u le =
    let most = mul-div-le distance d in
    let step = mul-le-mul_left d le in
    omega (arith, most, step)

past : (distance d u : ℕ) → 0 < d → distance / d < u → distance < d * u
past distance d u some lt =
    let most : distance < distance / d * d + d = lt-div-mul-add some in
    let next : distance / d + 1 ≤ u = omega (arith, lt) in
    let step = mul-le-mul_left d next in
    omega (arith, most, step)

-- where the first of two lines, which rises by d faster, is the lesser one at the last of three windows, or the other one at the first
first_lesser : (p q r d v : ℕ) → p + d * (v + 2) ≤ q → IsStraightAt (lesser_of p (r + d) q r) v
first_lesser p q r d v h =
    as_straight _ _ _ _ _ _ (here v (omega (arith, h))) (here (v + 1) (omega (arith, h))) (here (v + 2) h) (omega arith) where
      here : (w : ℕ) → p + d * w ≤ q → min (p + (r + d) * w) (q + r * w) ≡ p + (r + d) * w
      here w h = omega (arith, h)

second_lesser : (p q r d v : ℕ) → q ≤ p + d * v → IsStraightAt (lesser_of p (r + d) q r) v
second_lesser p q r d v h =
    as_straight _ _ _ _ _ _ (here v h) (here (v + 1) (omega (arith, h))) (here (v + 2) (omega (arith, h))) (omega arith) where
      here : (w : ℕ) → q ≤ p + d * w → min (p + (r + d) * w) (q + r * w) ≡ q + r * w
      here w h = omega (arith, h)

faster : (p q r d v : ℕ) → p ≤ q → v + 1 ≢ (q - p) / d → v ≢ (q - p) / d → IsStraightAt (lesser_of p (r + d) q r) v
faster p q r d v order apart next = ⊎_elim
    (λ (lt : v < (q - p) / d).
    let le : v + 2 ≤ (q - p) / d = omega (arith, lt, apart) in
    first_lesser p q r d v (below (within (q - p) d (v + 2) le)))
    (λ (ge : (q - p) / d ≤ v). ⊎_elim
    (λ (some : 0 < d).
    let lt : (q - p) / d < v = omega (arith, ge, next) in
    second_lesser p q r d v (above_it (past (q - p) d v some lt)))
    (λ (none : d ≤ 0). level none)
    (cases_lt 0 d))
    (cases_lt v ((q - p) / d)) where
      below : d * (v + 2) ≤ q - p → p + d * (v + 2) ≤ q
      below h = omega (arith, order, h)

      above_it : q - p < d * v → q ≤ p + d * v
      above_it h = omega (arith, order, h)

      level : d ≤ 0 → IsStraightAt (lesser_of p (r + d) q r) v
      level none =
          let share = mul-le-mul_right (v + 2) none in
          first_lesser p q r d v (omega (arith, order, share))

steeper : (p q r d v : ℕ) → v + 1 ≢ abs_diff p q / d → v ≢ abs_diff p q / d → IsStraightAt (lesser_of p (r + d) q r) v
steeper p q r d v apart next = ⊎_elim
    (λ (lt : q < p). second_lesser p q r d v (omega (arith, lt)))
    (λ (le : p ≤ q).
    let same : abs_diff p q ≡ q - p = omega (arith, le) in
    faster p q r d v le (subst (λ n. v + 1 ≢ n / d) same apart) (subst (λ n. v ≢ n / d) same next))
    (cases_lt q p)

swapped : (p s q r v : ℕ) → IsStraightAt (lesser_of q r p s) v → IsStraightAt (lesser_of p s q r) v
swapped p s q r v h = as_straight _ _ _ _ _ _ (turned (p + s * v) (q + r * v)) (turned (p + s * (v + 1)) (q + r * (v + 1))) (turned (p + s * (v + 2)) (q + r * (v + 2))) h where
  turned : (x y : ℕ) → min x y ≡ min y x
  turned x y = omega arith

two_lines : (p s q r v : ℕ) → v + 1 ≢ abs_diff p q / abs_diff s r → v ≢ abs_diff p q / abs_diff s r → IsStraightAt (lesser_of p s q r) v
two_lines p s q r v apart next = ⊎_elim
    (λ (lt : s < r).
    let gap : abs_diff s r ≡ r - s = omega (arith, lt) in
    let sides : abs_diff p q ≡ abs_diff q p = omega arith in
    let apart' : v + 1 ≢ abs_diff q p / (r - s) = subst (λ n. v + 1 ≢ n / (r - s)) sides (subst (λ n. v + 1 ≢ abs_diff p q / n) gap apart) in
    let next' : v ≢ abs_diff q p / (r - s) = subst (λ n. v ≢ n / (r - s)) sides (subst (λ n. v ≢ abs_diff p q / n) gap next) in
    let whole : s + (r - s) ≡ r = omega (arith, lt) in
    swapped p s q r v (subst (λ n. IsStraightAt (lesser_of q n p s) v) whole (steeper q p s (r - s) v apart' next')))
    (λ (le : r ≤ s).
    let gap : abs_diff s r ≡ s - r = omega (arith, le) in
    let apart' : v + 1 ≢ abs_diff p q / (s - r) = subst (λ n. v + 1 ≢ abs_diff p q / n) gap apart in
    let next' : v ≢ abs_diff p q / (s - r) = subst (λ n. v ≢ abs_diff p q / n) gap next in
    let whole : r + (s - r) ≡ s = omega (arith, le) in
    subst (λ n. IsStraightAt (lesser_of p n q r) v) whole (steeper p q r (s - r) v apart' next'))
    (cases_lt s r)

curve_straight : (a : Straight) (b : Option Straight) (v : ℕ) → v + 1 ≢ crossing a b → v ≢ crossing a b → IsStraightAt (lesser_at a b) v
curve_straight a None v apart next = omega arith
curve_straight a (Some b) v apart next = two_lines a.burst a.rate b.burst b.rate v apart next

-- ---- all of them

each_less : (x y z m : ℕ) → max (max x y) z < m → (x < m) × (y < m) × (z < m)
each_less x y z m h = (omega (arith, h), omega (arith, h), omega (arith, h))

not_there : (g : ℕ → ℕ) (u t : ℕ) → g t < g u → u ≢ t
not_there g u t lt = λ e. let same = ap g e in omega (arith, same, lt)

sum_straight : (g : ℕ → ℕ) (curves : List Curve) (v : ℕ) → greatest_beside g curves < g (v + 1) → IsStraightAt (λ u. sum_by (λ c. curve_at c u) curves) v
sum_straight g [] v h = omega arith
sum_straight g (c ∷ curves) v h =
    let each = each_less (g (turn_of c)) (g (turn_of c + 1)) (greatest_beside g curves) (g (v + 1)) h in
    let here = curve_straight c.paid c.brought v (not_there g (v + 1) (turn_of c) each.0) (not_there (λ n. g (n + 1)) v (turn_of c) each.1) in
    let more = sum_straight g curves v each.2 in
    adds _ _ _ _ _ _ _ _ _ (sum_by-cons (λ c. curve_at c v) c curves) (sum_by-cons (λ c. curve_at c (v + 1)) c curves) (sum_by-cons (λ c. curve_at c (v + 2)) c curves) here more where
      adds : (x y z xs ys zs sx sy sz : ℕ) → sx ≡ x + xs → sy ≡ y + ys → sz ≡ z + zs → x + z ≡ 2 * y → xs + zs ≡ 2 * ys → sx + sz ≡ 2 * sy
      adds x y z xs ys zs sx sy sz p q r h k = omega (arith, p, q, r, h, k)

-- ---- the most above a line

-- what is past a line by more than m at a window, and not at the one before, is ever farther past it
climbs : (f : ℕ → ℕ) (n m w : ℕ) → ((v : ℕ) → n * (v + 1) + m < f (v + 1) → IsStraightAt f v) → f w ≤ n * w + m → n * (w + 1) + m < f (w + 1)
    → (d : ℕ) → (n * (w + d + 1) + m + d < f (w + d + 1)) × (f (w + d) + n < f (w + d + 1))
climbs f n m w straight below over zero =
    let e : w + 0 ≡ w = omega arith in
    rw e (omega (arith, over), omega (arith, below, over))
climbs f n m w straight below over (suc d) =
    let before = climbs f n m w straight below over d in
    let bend = straight (w + d) (omega (arith, before.0)) in
    let e : w + suc d ≡ w + d + 1 = omega arith in
    rw e (next (w + d) bend before.0 before.1) where
      next : (u : ℕ) → f u + f (u + 2) ≡ 2 * f (u + 1) → n * (u + 1) + m + d < f (u + 1) → f u + n < f (u + 1)
          → (n * (u + 1 + 1) + m + suc d < f (u + 1 + 1)) × (f (u + 1) + n < f (u + 1 + 1))
      next u bend past' step =
          let same : f (u + 2) ≡ f (u + 1 + 1) = ap f (omega arith) in
          (omega (arith, same, bend, past', step), omega (arith, same, bend, step))

most_beside : (f : ℕ → ℕ) (n m s : ℕ) → ((v : ℕ) → n * (v + 1) + m < f (v + 1) → IsStraightAt f v) → ((u : ℕ) → f u ≤ n * u + s) → f 0 ≤ m → (u : ℕ) → f u ≤ n * u + m
most_beside f n m s straight bounded start zero = omega (arith, start)
most_beside f n m s straight bounded start (suc v) =
    let before = most_beside f n m s straight bounded start v in
    let e : suc v ≡ v + 1 = omega arith in
    rw e (⊎_elim
    (λ (over : n * (v + 1) + m < f (v + 1)).
    let far = (climbs f n m v straight before over s).0 in
    let near = bounded (v + s + 1) in
    absurd (omega (arith, far, near)))
    (λ (le : f (v + 1) ≤ n * (v + 1) + m). le)
    (cases_lt (n * (v + 1) + m) (f (v + 1))))

above_is : (n : ℕ) (curves : List Curve) (u : ℕ) → above n curves u ≡ sum_by (λ c. curve_at c u) curves - n * u
unfolding above
above_is n curves u = refl

turns_enough : BurstsAreEnough → (n : ℕ) (curves : List Curve) → sum_by (λ c. c.paid.rate) curves ≤ n → IsEnough n (max (above n curves 0) (greatest_beside (above n curves) curves)) curves
turns_enough paid n curves slow =
    most_beside (λ u. sum_by (λ c. curve_at c u) curves) n (max (above n curves 0) (greatest_beside (above n curves) curves)) (paid_burst curves)
    (λ v over. sum_straight (above n curves) curves v (higher _ _ _ _ (n * (v + 1)) (above_is n curves (v + 1)) over))
    (paid n curves slow)
    (first _ _ _ n (above_is n curves 0)) where
      higher : (x y f g l : ℕ) → g ≡ f - l → l + max x y < f → y < g
      higher x y f g l e h = omega (arith, e, h)

      first : (x y f n : ℕ) → x ≡ f - n * 0 → f ≤ max x y
      first x y f n e = omega (arith, e)

beside_less : (g : ℕ → ℕ) (most : ℕ) → ((u : ℕ) → g u ≤ most) → (curves : List Curve) → greatest_beside g curves ≤ most
beside_less g most h [] = omega arith
beside_less g most h (c ∷ curves) = all (g (turn_of c)) (g (turn_of c + 1)) (greatest_beside g curves) (h (turn_of c)) (h (turn_of c + 1)) (beside_less g most h curves) where
  all : (x y z : ℕ) → x ≤ most → y ≤ most → z ≤ most → max (max x y) z ≤ most
  all x y z p q r = omega (arith, p, q, r)

pub bursts_least : BurstsAreEnough → (n : ℕ) (curves : List Curve) → sum_by (λ c. c.paid.rate) curves ≤ n → IsLeastBurst n (least_burst n curves) curves
bursts_least paid n curves slow = record {
  enough = λ window. both _ _ _ _ (paid n curves slow window) (turns_enough paid n curves slow window);
  least = λ other enough.
      let each : (u : ℕ) → above n curves u ≤ other = λ u. less _ _ _ _ (above_is n curves u) (enough u) in
      last _ _ _ _ (each 0) (beside_less (above n curves) other each curves);
} where
  both : (f l s m : ℕ) → f ≤ l + s → f ≤ l + m → f ≤ l + min s m
  both f l s m h k = omega (arith, h, k)

  less : (g f l other : ℕ) → g ≡ f - l → f ≤ l + other → g ≤ other
  less g f l other e h = omega (arith, e, h)

  last : (s x y other : ℕ) → x ≤ other → y ≤ other → min s (max x y) ≤ other
  last s x y other h k = omega (arith, h, k)

pub none_more : (n : ℕ) (curves : List Curve) → least_burst n curves ≤ paid_burst curves
none_more n curves = lesser (paid_burst curves) (max (above n curves 0) (greatest_beside (above n curves) curves)) where
  lesser : (s m : ℕ) → min s m ≤ s
  lesser s m = omega arith
