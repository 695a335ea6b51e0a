-- What is found, and what is made one after the other.
use Rattle.std.proofs.Common.{◌≡◌, ℕ, zero, suc, ◌<◌, List, [], ◌∷◌, length, slice_get, Option, Some, None, Result, Ok, Err, refl, sym, subst, arith}
use Rattle.std.specs.Prelude.{IfErr, IfNone, IfSome, IsErr, IsErrAnd, MatchResult}

pub some_weaker : {X : Type 0} (P Q : X → Type 0) (o : Option X) → ((x : X) → P x → Q x) → IfSome o P → IfSome o Q
some_weaker P Q (Some x) f h = f x h
some_weaker P Q None f h = tt

pub none_weaker : {X : Type 0} (P Q : Type 0) (o : Option X) → (P → Q) → IfNone o P → IfNone o Q
none_weaker P Q (Some x) f h = tt
none_weaker P Q None f h = f h

-- what goes out through a `?`
pub of_error : {T E : Type 0} (P : E → Type 0) (r : Result T E) (e : E) → IsErr r × IsErrAnd r (λ x. x ≡ e) → P e → IfErr r P
of_error P (Ok x) e is holds = absurd is.1
of_error P (Err x) e is holds = subst P (sym is.1) holds

pub in_error : {T E : Type 0} (P : T → Type 0) (Q : E → Type 0) (r : Result T E) (e : E) → IsErr r × IsErrAnd r (λ x. x ≡ e) → Q e → MatchResult r P Q
in_error P Q (Ok x) e is holds = absurd is.1
in_error P Q (Err x) e is holds = subst Q (sym is.1) holds

-- what is there within a list
pub element_at : {X : Type 0} (xs : List X) (k : ℕ) → k < length xs → (x : X) × (slice_get xs k ≡ Some x)
element_at [] k lt = absurd (omega (arith, lt))
element_at (x ∷ xs) zero lt = (x, refl)
element_at (x ∷ xs) (suc k) lt = element_at xs k (omega (arith, lt))

-- and nothing is lacking there
pub none_within : {X : Type 0} (xs : List X) (k : ℕ) → slice_get xs k ≡ None → k < length xs → ⊥
none_within xs k none lt = let x = element_at xs k lt in none_some none x.1 where
  none_some : {X : Type 0} {o : Option X} {x : X} → o ≡ None → o ≡ Some x → ⊥
  none_some none some = cc
