-- Places in lists, one of which is written.
use Rattle.std.proofs.Common.{◌≡◌, ◌⊎◌, ℕ, zero, suc, List, [], ◌∷◌, map, slice_get, Some, refl, ap, inl, inr, subst}
use Rattle.std.specs.Prelude.{slice_set}
use Rattle.std.proofs.lemmas.Option.{same_Some}

-- what is at a place after a write was written there, or was there before
pub got_set : {X : Type 0} (xs : List X) (place n : ℕ) (v x : X) → slice_get (slice_set xs place v) n ≡ Some x → ((n ≡ place) × (v ≡ x)) ⊎ (slice_get xs n ≡ Some x)
got_set [] place n v x is = inr is
got_set (y ∷ ys) zero zero v x is = inl (refl, same_Some _ _ is)
got_set (y ∷ ys) zero (suc n) v x is = inr is
got_set (y ∷ ys) (suc place) zero v x is = inr is
got_set (y ∷ ys) (suc place) (suc n) v x is = by (got_set ys place n v x is) where
  by : ((n ≡ place) × (v ≡ x)) ⊎ (slice_get ys n ≡ Some x) → ((suc n ≡ suc place) × (v ≡ x)) ⊎ (slice_get ys n ≡ Some x)
  by (inl same) = inl (ap suc same.0, same.1)
  by (inr there) = inr there

-- what a map makes of the list stays, where it makes the same of what is written
pub map_stays : {X Y : Type 0} (f : X → Y) (xs : List X) (place : ℕ) (v was : X) → slice_get xs place ≡ Some was → f v ≡ f was → map f (slice_set xs place v) ≡ map f xs
map_stays f [] place v was is same = refl
map_stays {Y = Y} f (x ∷ xs) zero v was is same =
    ap (λ (y : Y). y ∷ map f xs) (subst (λ z. f v ≡ f z) (sym_some is) same) where
      sym_some : Some x ≡ Some was → was ≡ x
      sym_some h = cc
map_stays {Y = Y} f (x ∷ xs) (suc place) v was is same = ap (λ (ys : List Y). f x ∷ ys) (map_stays f xs place v was is same)
