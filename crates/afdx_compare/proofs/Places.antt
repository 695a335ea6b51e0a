-- Lists of which one item is changed.
use Rattle.std.proofs.Common.{◌≡◌, ℕ, zero, suc, ◌<◌, List, [], ◌∷◌, length, Some, refl, sym, ap, subst, ◌∙◌, arith}
use Rattle.std.specs.Prelude.{slice_get, Contains}
use Rattle.std.specs.List.{AllByRecursion}
use Rattle.std.proofs.lemmas.Option.{slice_get_within, get_or_from_slice_get}
use Rattle.afdx_following.specs.Watched.{changed_at}

pub changed_length : {X : Type 0} (place : ℕ) (change : X → X) (xs : List X) → length (changed_at place change xs) ≡ length xs
changed_length place change [] = refl
changed_length zero change (x ∷ xs) = refl
changed_length (suc place) change (x ∷ xs) = ap (λ (n : ℕ). suc n) (changed_length place change xs)

-- what holds of all holds of all still, where it holds of the changed one
pub changed_all : {X : Type 0} (P : X → Type 0) (place : ℕ) (change : X → X) (xs : List X) → ((x : X) → slice_get xs place ≡ Some x → P x → P (change x))
    → AllByRecursion P xs → AllByRecursion P (changed_at place change xs)
changed_all P place change [] kept all = tt
changed_all P zero change (x ∷ xs) kept all = (kept x refl all.0, all.1)
changed_all P (suc place) change (x ∷ xs) kept all = (all.0, changed_all P place change xs kept all.1)

-- the item at a place of the changed list is what it was, or the change of it
pub changed_get : {X : Type 0} (R : X → X → Type 0) (place : ℕ) (change : X → X) → ((x : X) → R x x) → ((x : X) → R (change x) x) → (xs : List X) (k : ℕ) (y : X)
    → slice_get (changed_at place change xs) k ≡ Some y → (x : X) × (slice_get xs k ≡ Some x) × R y x
changed_get R place change same changed [] k y get = absurd (let none = get in cc)
changed_get R zero change same changed (x ∷ xs) zero y get = (x, refl, subst (λ (z : _). R z x) (let is : change x ≡ y = cc in is) (changed x))
changed_get R zero change same changed (x ∷ xs) (suc k) y get = (y, get, same y)
changed_get R (suc place) change same changed (x ∷ xs) zero y get = (y, get, same y)
changed_get R (suc place) change same changed (x ∷ xs) (suc k) y get = changed_get R place change same changed xs k y get

pub get_there : {X : Type 0} (xs : List X) (k : ℕ) → k < length xs → (x : X) × (slice_get xs k ≡ Some x)
get_there [] k lt = absurd (omega (arith, lt))
get_there (x ∷ xs) zero lt = (x, refl)
get_there (x ∷ xs) (suc k) lt = get_there xs k (omega (arith, lt))

pub all_at : {X : Type 0} (P : X → Type 0) (xs : List X) (k : ℕ) (x : X) → slice_get xs k ≡ Some x → AllByRecursion P xs → P x
all_at P [] k x get all = absurd (let none = get in cc)
all_at {X} P (y ∷ xs) zero x get all = subst P (let same : y ≡ x = cc in same) all.0
all_at P (y ∷ xs) (suc k) x get all = all_at P xs k x get all.1

pub same_get : {X : Type 0} (xs : List X) (k : ℕ) (x y : X) → slice_get xs k ≡ Some x → slice_get xs k ≡ Some y → x ≡ y
same_get xs k x y one other = (let both : Some x ≡ Some y = sym one ∙ other in cc)

pub item_contained : {X : Type 0} (xs : List X) (k : ℕ) (x : X) → slice_get xs k ≡ Some x → Contains xs x
item_contained xs k x get = (k, slice_get_within xs k x get, get_or_from_slice_get xs k x x get)
