-- Lists, and what holds of all of their elements.
use Rattle.std.proofs.Common.{◌≡◌, ℕ, zero, suc, List, [], ◌∷◌, ◌++◌, length, set, slice_get, Some, refl, ap, arith, subst}
use Rattle.std.proofs.Common.{length-append}
use Rattle.std.specs.List.{AllByRecursion}
use Rattle.std.proofs.lemmas.Option.{same_Some}

pub all_weaker : {X : Type 0} (P Q : X → Type 0) → ((x : X) → P x → Q x) → (xs : List X) → AllByRecursion P xs → AllByRecursion Q xs
all_weaker P Q on [] all = tt
all_weaker P Q on (x ∷ xs) all = (on x all.0, all_weaker P Q on xs all.1)

pub all_set : {X : Type 0} (P : X → Type 0) (xs : List X) (k : ℕ) (y : X) → AllByRecursion P xs → P y → AllByRecursion P (set xs k y)
all_set P [] k y all here = tt
all_set P (x ∷ xs) zero y all here = (here, all.1)
all_set P (x ∷ xs) (suc k) y all here = (all.0, all_set P xs k y all.1 here)

pub all_at : {X : Type 0} (P : X → Type 0) (xs : List X) (k : ℕ) (x : X) → AllByRecursion P xs → slice_get xs k ≡ Some x → P x
all_at P [] k x all is = absurd cc
all_at P (y ∷ xs) zero x all is = subst P (same_Some y x is) all.0
all_at P (y ∷ xs) (suc k) x all is = all_at P xs k x all.1 is

-- of two lists with the same end, the starts are the same
pub same_starts : {X : Type 0} (xs ys zs : List X) → xs ++ zs ≡ ys ++ zs → xs ≡ ys
same_starts [] [] zs is = refl
same_starts {X} [] (y ∷ ys) zs is = absurd (let long = ap (λ (l : List X). length l) is in let all = length-append (y ∷ ys) zs in omega (arith, long, all))
same_starts {X} (x ∷ xs) [] zs is = absurd (let long = ap (λ (l : List X). length l) is in let all = length-append (x ∷ xs) zs in omega (arith, long, all))
same_starts (x ∷ xs) (y ∷ ys) zs is = let rest = same_starts xs ys zs (cc) in cc
