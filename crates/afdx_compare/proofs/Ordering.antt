-- Rows that a stable sort puts in order are those that are put one by one.
use Rattle.std.proofs.Common.{◌≡◌, ℕ, zero, suc, ◌<◌, ◌≤◌, nat_lt, Bool, true, false, cond, List, [], ◌∷◌, length, get_or, filter, nat_cmp, is_lt}
use Rattle.std.proofs.Common.{refl, sym, ap, ◌∙◌, arith, inl, inr, suc-le-suc, zero-le}
use Rattle.std.specs.Prelude.{if◌then◌else◌}
use Rattle.std.proofs.lemmas.Bool.{cond-true, cond-false, cases_Bool}
use Rattle.std.proofs.lemmas.Bool.Decides.{nat_tests}
use Rattle.std.specs.List.Sorted.{ties, IsNonDecreasingBy, IsStableByKey}
use Rattle.afdx_compare.specs.declared.row.Row.{Row}
use Rattle.afdx_compare.specs.Rows.{instant_of, with_row, in_order}

-- ---- rows of one instant

-- a row is at the instant of another
abbrev is_at : Row → Row → Bool
is_at = ties (λ x y. is_lt (nat_cmp (instant_of x) (instant_of y)))

ties_at : (m n : ℕ) → (ties (λ x y. is_lt (nat_cmp x y)) m n ≡ true → m ≡ n) × (m ≡ n → ties (λ x y. is_lt (nat_cmp x y)) m n ≡ true)
ties_at m n = (λ h. grind (arith, nat_tests), λ h. grind (arith, nat_tests))

is_at-true : (x y : Row) → is_at x y ≡ true → instant_of x ≡ instant_of y
is_at-true x y = (ties_at (instant_of x) (instant_of y)).0

is_at-from : (x y : Row) → instant_of x ≡ instant_of y → is_at x y ≡ true
is_at-from x y = (ties_at (instant_of x) (instant_of y)).1

filter-kept : (p : Row → Bool) (y : Row) (ys : List Row) → p y ≡ true → filter p (y ∷ ys) ≡ y ∷ filter p ys
filter-kept p y ys h = cond-true _ _ _ h

filter-dropped : (p : Row → Bool) (y : Row) (ys : List Row) → p y ≡ false → filter p (y ∷ ys) ≡ filter p ys
filter-dropped p y ys h = cond-false _ _ _ h

lt_true : (m n : ℕ) → nat_lt m n ≡ true → m < n
lt_true m n h = grind (arith, nat_tests)

lt_false : (m n : ℕ) → nat_lt m n ≡ false → n ≤ m
lt_false m n h = grind (arith, nat_tests)

exchanged : (a b : Bool) (c d : Row) (rest : List Row) → (a ≡ true → b ≡ true → ⊥)
    → cond b (d ∷ cond a (c ∷ rest) rest) (cond a (c ∷ rest) rest) ≡ cond a (c ∷ cond b (d ∷ rest) rest) (cond b (d ∷ rest) rest)
exchanged true true c d rest not_both = absurd (not_both refl refl)
exchanged true false c d rest not_both = refl
exchanged false true c d rest not_both = refl
exchanged false false c d rest not_both = refl

-- a row that is put stays where it is among those of its instant
filter-put : (x c : Row) (ds : List Row) → filter (is_at x) (with_row c ds) ≡ filter (is_at x) (c ∷ ds)
filter-put x c [] = refl
filter-put x c (d ∷ ds) = by (nat_lt (instant_of d) (instant_of c)) refl (filter-put x c ds) where
  p : Row → Bool
  p = is_at x

  apart : nat_lt (instant_of d) (instant_of c) ≡ true → p c ≡ true → p d ≡ true → ⊥
  apart less first second =
      let one = is_at-true x c first in
      let other = is_at-true x d second in
      let below = lt_true (instant_of d) (instant_of c) less in omega (arith, one, other, below)

  by : (b : Bool) → nat_lt (instant_of d) (instant_of c) ≡ b → filter p (with_row c ds) ≡ filter p (c ∷ ds)
      → filter p (if b then d ∷ with_row c ds else c ∷ d ∷ ds) ≡ filter p (c ∷ d ∷ ds)
  by false is others = refl
  by true is others = ap (λ (l : List Row). cond (p d) (d ∷ l) l) others ∙ exchanged (p c) (p d) c d (filter p ds) (apart is)

filter-ordered : (x : Row) (cs : List Row) → filter (is_at x) (in_order cs) ≡ filter (is_at x) cs
filter-ordered x [] = refl
filter-ordered x (c ∷ cs) =
    filter-put x c (in_order cs) ∙ ap (λ (l : List Row). cond (is_at x c) (c ∷ l) l) (filter-ordered x cs)

-- ---- instants that rise

abbrev AreAtLeast : ℕ → List Row → Type 0
AreAtLeast n [] = Unit {0}
AreAtLeast n (y ∷ ys) = (n ≤ instant_of y) × AreAtLeast n ys

abbrev Rises : List Row → Type 0
Rises [] = Unit {0}
Rises (y ∷ ys) = AreAtLeast (instant_of y) ys × Rises ys

AreAtLeast-le : (n m : ℕ) (ys : List Row) → n ≤ m → AreAtLeast m ys → AreAtLeast n ys
AreAtLeast-le n m [] le h = tt
AreAtLeast-le n m (y ∷ ys) le h = let first = h.0 in (omega arith, AreAtLeast-le n m ys le h.1)

AreAtLeast-at : (n : ℕ) (d : Row) (ys : List Row) → ((j : ℕ) → j < length ys → n ≤ instant_of (get_or ys j d)) → AreAtLeast n ys
AreAtLeast-at n d [] h = tt
AreAtLeast-at n d (y ∷ ys) h = (h zero (suc-le-suc zero-le), AreAtLeast-at n d ys (λ j lt. h (suc j) (suc-le-suc lt)))

Rises-from_sort : (ys : List Row) → IsNonDecreasingBy instant_of ys → Rises ys
Rises-from_sort [] h = tt
Rises-from_sort (y ∷ ys) h = (
  AreAtLeast-at (instant_of y) y ys (λ j lt. h zero (suc j) y zero-le (suc-le-suc lt)),
  Rises-from_sort ys (λ i j d le lt. h (suc i) (suc j) d (suc-le-suc le) (suc-le-suc lt)),
)

AreAtLeast-put : (n : ℕ) (x : Row) (ys : List Row) → n ≤ instant_of x → AreAtLeast n ys → AreAtLeast n (with_row x ys)
AreAtLeast-put n x [] le h = (le, tt)
AreAtLeast-put n x (y ∷ ys) le h = by (nat_lt (instant_of y) (instant_of x)) (AreAtLeast-put n x ys le h.1) where
  by : (b : Bool) → AreAtLeast n (with_row x ys) → AreAtLeast n (if b then y ∷ with_row x ys else x ∷ y ∷ ys)
  by true others = (h.0, others)
  by false others = (le, h)

Rises-put : (x : Row) (ys : List Row) → Rises ys → Rises (with_row x ys)
Rises-put x [] h = (tt, tt)
Rises-put x (y ∷ ys) h = by (nat_lt (instant_of y) (instant_of x)) refl (Rises-put x ys h.1) where
  by : (b : Bool) → nat_lt (instant_of y) (instant_of x) ≡ b → Rises (with_row x ys) → Rises (if b then y ∷ with_row x ys else x ∷ y ∷ ys)
  by true is others = (AreAtLeast-put (instant_of y) x ys (let less = lt_true (instant_of y) (instant_of x) is in omega (arith, less)) h.0, others)
  by false is others = let le = lt_false (instant_of y) (instant_of x) is in ((le, AreAtLeast-le (instant_of x) (instant_of y) ys le h.0), h)

Rises-ordered : (xs : List Row) → Rises (in_order xs)
Rises-ordered [] = tt
Rises-ordered (x ∷ xs) = Rises-put x (in_order xs) (Rises-ordered xs)

-- ---- rows that rise and agree at each instant are the same

-- the instant of x occurs among them
AreAtLeast-found : (n : ℕ) (x : Row) (ys : List Row) (w : Row) (ws : List Row) → AreAtLeast n ys → filter (is_at x) ys ≡ w ∷ ws → n ≤ instant_of x
AreAtLeast-found n x [] w ws h e = cc
AreAtLeast-found n x (y ∷ ys) w ws h e =
    elim (cases_Bool (is_at x y)) [
      | inl with ↦ let low = h.0 in let same = is_at-true x y with in omega (arith, low, same)
      | inr without ↦ AreAtLeast-found n x ys w ws h.1 (sym (filter-dropped (is_at x) y ys without) ∙ e)
    ]

same_from_instants : (ys zs : List Row) → Rises ys → Rises zs → ((x : Row) → filter (is_at x) ys ≡ filter (is_at x) zs) → ys ≡ zs
same_from_instants [] [] left right same = refl
same_from_instants [] (z ∷ zs) left right same =
    let clash = same z ∙ filter-kept (is_at z) z zs (is_at-from z z refl) in cc
same_from_instants (y ∷ ys) [] left right same =
    let clash = sym (same y) ∙ filter-kept (is_at y) y ys (is_at-from y y refl) in cc
same_from_instants (y ∷ ys) (z ∷ zs) left right same =
    let at_y = filter-kept (is_at y) y ys (is_at-from y y refl) in
    let at_z = filter-kept (is_at z) z zs (is_at-from z z refl) in
    let up = AreAtLeast-found (instant_of z) y (z ∷ zs) y _ (omega arith, right.0) (sym (same y) ∙ at_y) in
    let down = AreAtLeast-found (instant_of y) z (y ∷ ys) z _ (omega arith, left.0) (same z ∙ at_z) in
    let heads = sym at_y ∙ same y ∙ filter-kept (is_at y) z zs (is_at-from y z (omega arith)) in
    let head : y ≡ z = cc in
    let tails : (x : Row) → filter (is_at x) ys ≡ filter (is_at x) zs =
    λ x. elim (cases_Bool (is_at x y)) [
      | inl with ↦
          let both = sym (filter-kept (is_at x) y ys with) ∙ same x ∙ filter-kept (is_at x) z zs (ap (is_at x) (sym head) ∙ with) in cc
      | inr without ↦
          sym (filter-dropped (is_at x) y ys without) ∙ same x ∙ filter-dropped (is_at x) z zs (ap (is_at x) (sym head) ∙ without)
    ] in
    ap (λ (w : Row). w ∷ ys) head ∙ ap (λ (l : List Row). z ∷ l) (same_from_instants ys zs left.1 right.1 tails)

pub ordered_from_sort : (xs ys : List Row) → IsNonDecreasingBy instant_of ys → IsStableByKey instant_of nat_cmp xs ys → ys ≡ in_order xs
ordered_from_sort xs ys sorted stable =
    same_from_instants ys (in_order xs) (Rises-from_sort ys sorted) (Rises-ordered xs) (λ x. stable x ∙ sym (filter-ordered x xs))
