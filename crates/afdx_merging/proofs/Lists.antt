-- Lists by their places.
use Rattle.std.proofs.Common.{◌≡◌, ◌≢◌, ℕ, zero, suc, ◌+◌, ◌<◌, List, [], ◌∷◌, ◌++◌, map, length, set, slice_get, Some, inl, inr, refl, ap, sym, ◌∙◌, arith, subst}
use Rattle.std.specs.Prelude.{◌⊎◌}
use Rattle.std.specs.List.{AllByRecursion}
use Rattle.std.specs.declared.vec.Vec.{Vec}
use Rattle.std.specs.Vec.{with_items}
use Rattle.std.proofs.lemmas.List.{with_items_is}
use Rattle.std.proofs.lemmas.Option.{same_Some}

pub all_more : {X : Type 0} (P : X → Type 0) (xs : List X) (x : X) → AllByRecursion P xs → P x → AllByRecursion P (xs ++ x ∷ [])
all_more P [] x all one = (one, tt)
all_more P (y ∷ xs) x all one = (all.0, all_more P xs x all.1 one)

pub all_weaker : {X : Type 0} (P Q : X → Type 0) → ((x : X) → P x → Q x) → (xs : List X) → AllByRecursion P xs → AllByRecursion Q xs
all_weaker P Q weaker [] all = tt
all_weaker P Q weaker (x ∷ xs) all = (weaker x all.0, all_weaker P Q weaker xs all.1)

-- what is there after one was changed
pub get-set : {X : Type 0} (xs : List X) (k j : ℕ) (new x : X) → slice_get (set xs k new) j ≡ Some x → ((j ≡ k) × (x ≡ new)) ⊎ ((j ≢ k) × (slice_get xs j ≡ Some x))
get-set [] k j new x is = absurd cc
get-set (y ∷ xs) zero zero new x is = inl (refl, sym (same_Some new x is))
get-set (y ∷ xs) zero (suc j) new x is = inr (λ same. absurd (omega (arith, same)), is)
get-set (y ∷ xs) (suc k) zero new x is = inr (λ same. absurd (omega (arith, same)), is)
get-set (y ∷ xs) (suc k) (suc j) new x is = elim (get-set xs k j new x is) [
  | inl same ↦ inl (ap suc same.0, same.1)
  | inr other ↦ inr (λ same. other.0 (omega (arith, same)), other.1)
]

-- what stays at other places
pub set_later : {X : Type 0} (xs : List X) (n k : ℕ) (y : X) → n < k → slice_get (set xs n y) k ≡ slice_get xs k
set_later [] n k y lt = refl
set_later (x ∷ xs) zero zero y lt = absurd (omega (arith, lt))
set_later (x ∷ xs) zero (suc k) y lt = refl
set_later (x ∷ xs) (suc n) zero y lt = absurd (omega (arith, lt))
set_later (x ∷ xs) (suc n) (suc k) y lt = set_later xs n k y (omega (arith, lt))

pub set_twice : {X : Type 0} (xs : List X) (k : ℕ) (x y : X) → set (set xs k x) k y ≡ set xs k y
set_twice [] k x y = refl
set_twice (z ∷ xs) zero x y = refl
set_twice (z ∷ xs) (suc k) x y = ap (λ ys. z ∷ ys) (set_twice xs k x y)

-- what a call leaves of a vector's elements is in it
pub back_items : {X Z : Type 0} (v : Vec X Z) (ws : List X) → length ws ≡ length v.items → (with_items v ws).items ≡ ws
back_items v ws same = with_items_is v ws (same ∙ sym v.ok.0)

-- there is one at each place
pub there : {X : Type 0} (xs : List X) (k : ℕ) → k < length xs → (x : X) × (slice_get xs k ≡ Some x)
there [] k lt = absurd (omega (arith, lt))
there (x ∷ xs) zero lt = (x, refl)
there (x ∷ xs) (suc k) lt = there xs k (omega (arith, lt))

-- the one that is mapped there
pub mapped_at : {X Y : Type 0} (f : X → Y) (xs : List X) (k : ℕ) (y : Y) → slice_get (map f xs) k ≡ Some y → (x : X) × (slice_get xs k ≡ Some x) × (f x ≡ y)
mapped_at f [] k y is = absurd cc
mapped_at f (x ∷ xs) zero y is = (x, refl, same_Some (f x) y is)
mapped_at f (x ∷ xs) (suc k) y is = mapped_at f xs k y is

-- what there is for each place, as a list
pub chosen : {X Y : Type 0} (P : ℕ → X → Y → Type 0) (xs : List X) → ((k : ℕ) (x : X) → slice_get xs k ≡ Some x → (y : Y) × P k x y)
    → (ys : List Y) × (length ys ≡ length xs) × ((k : ℕ) (x : X) (y : Y) → slice_get xs k ≡ Some x → slice_get ys k ≡ Some y → P k x y)
chosen P [] has = ([], refl, λ k x y is at. absurd cc)
chosen {X} {Y} P (x ∷ xs) has =
    let first = has 0 x refl in
    let rest = chosen (λ k. P (suc k)) xs (λ k. has (suc k)) in
    (first.0 ∷ rest.0, ap suc rest.1, each first.0 rest.0 first.1 rest.2) where
      each : (f : Y) (ys : List Y) → P 0 x f → ((k : ℕ) (a : X) (b : Y) → slice_get xs k ≡ Some a → slice_get ys k ≡ Some b → P (suc k) a b)
          → (k : ℕ) (a : X) (b : Y) → slice_get (x ∷ xs) k ≡ Some a → slice_get (f ∷ ys) k ≡ Some b → P k a b
      each f ys here on zero a b is at = subst (λ z. P 0 z b) (same_Some x a is) (subst (P 0 x) (same_Some f b at) here)
      each f ys here on (suc k) a b is at = on k a b is at
