-- Rows that are appended, one more each time.
use Rattle.std.proofs.Common.{◌≡◌, ℕ, zero, suc, ◌+◌, List, [], ◌∷◌, ◌++◌, drop, slice_get, Some, sym, ap, ◌∙◌, arith, append_assoc}
use Rattle.std.specs.Prelude.{flat_map}

some_is : {X : Type 0} {x y : X} → Some x ≡ Some y → x ≡ y
some_is e = (cc)

drop_here : {X : Type 0} (xs : List X) (i : ℕ) (x : X) → slice_get xs i ≡ Some x → drop i xs ≡ x ∷ drop (i + 1) xs
drop_here [] i x here = absurd cc
drop_here (y ∷ ys) zero x here = ap (λ z. z ∷ ys) (some_is here)
drop_here (y ∷ ys) (suc i) x here =
    let further : suc (i + 1) ≡ suc i + 1 = omega arith in
    drop_here ys i x here ∙ ap (λ (k : ℕ). x ∷ drop k (y ∷ ys)) further

pub one_more : {X : Type 0} (f : X → List ℕ) (xs : List X) (i : ℕ) (x : X) (start text longer : List ℕ) → slice_get xs i ≡ Some x → longer ≡ text ++ f x
    → start ++ flat_map f xs ≡ text ++ flat_map f (drop i xs) → start ++ flat_map f xs ≡ longer ++ flat_map f (drop (i + 1) xs)
one_more {X} f xs i x start text longer here grown h =
    h ∙ ap (λ (ys : List X). text ++ flat_map f ys) (drop_here xs i x here) ∙ sym (append_assoc text (f x) (flat_map f (drop (i + 1) xs)))
    ∙ ap (λ (t : List ℕ). t ++ flat_map f (drop (i + 1) xs)) (sym grown)
