-- What is found beside a code.
use Rattle.std.proofs.Common.{◌≡◌, ℕ, Bool, true, false, cond, List, [], ◌∷◌, map, find, Option, Some, option_map, refl, ap, ◌∙◌}
use Rattle.std.specs.Str.{bytes_eq}

abbrev Pair : Type 0
Pair = List ℕ × List ℕ

abbrev text_in : List ℕ → List Pair → Option (List ℕ)
text_in code pairs = option_map (λ (pair : Pair). pair.1) (find (λ (pair : Pair). bytes_eq pair.0 code) pairs)

module _ {X : Type 0} where
  -- of things with a code and a text
  same : (things : List X) (code_of text_of : X → List ℕ) (code : List ℕ)
      → option_map text_of (find (λ x. bytes_eq (code_of x) code) things) ≡ text_in code (map (λ x. (code_of x, text_of x)) things)
  same [] code_of text_of code = refl
  same (x ∷ xs) code_of text_of code = go (bytes_eq (code_of x) code) (same xs code_of text_of code)
    where
      go : (b : Bool) → option_map text_of (find (λ y. bytes_eq (code_of y) code) xs) ≡ text_in code (map (λ y. (code_of y, text_of y)) xs)
          → option_map text_of (cond b (Some x) (find (λ y. bytes_eq (code_of y) code) xs))
          ≡ option_map (λ (pair : Pair). pair.1) (cond b (Some (code_of x, text_of x)) (find (λ (pair : Pair). bytes_eq pair.0 code) (map (λ y. (code_of y, text_of y)) xs)))
      go true h = refl
      go false h = h

  pub found : (things : List X) (first : Option X) (code_of text_of : X → List ℕ) (code : List ℕ) (pairs : List Pair) → first ≡ find (λ x. bytes_eq (code_of x) code) things
      → map (λ x. (code_of x, text_of x)) things ≡ pairs → option_map text_of first ≡ option_map (λ (pair : Pair). pair.1) (find (λ (pair : Pair). bytes_eq pair.0 code) pairs)
  found things first code_of text_of code pairs is all = ap (λ o. option_map text_of o) is ∙ same things code_of text_of code ∙ ap (text_in code) all
