-- What is read past the end of a list.
use Rattle.std.proofs.Common.{◌≡◌, ℕ, zero, suc, ◌≤◌, List, [], ◌∷◌, length, get_or, slice_get, Option, Some, None, refl, arith}

pub none_past : {X : Type 0} (xs : List X) (i : ℕ) → slice_get xs i ≡ None → length xs ≤ i
none_past [] i none = omega arith
none_past (x ∷ xs) zero none = absurd cc
none_past (x ∷ xs) (suc i) none = let rest = none_past xs i none in omega (arith, rest)

pub read_past : {X : Type 0} (xs : List X) (i : ℕ) (d : X) → length xs ≤ i → get_or xs i d ≡ d
read_past [] i d past = refl
read_past (x ∷ xs) zero d past = absurd (omega (arith, past))
read_past (x ∷ xs) (suc i) d past = read_past xs i d (omega (arith, past))

pub none_some : {X : Type 0} {o : Option X} {x : X} → o ≡ None → o ≡ Some x → ⊥
none_some none some = cc
