-- A text, and what follows it on a new line; and what an option holds that a step made.
use Rattle.std.proofs.Common.{◌≡◌, ℕ, List, ◌∷◌, ◌++◌, Option, Some, None, option_map, refl, ap}
use Rattle.std.proofs.lemmas.Option.{none-some, same_Some}
use Rattle.toml_parser.specs.Lexical.{Read}

-- the text, a line feed and more
abbrev pub followed : List ℕ → List ℕ → List ℕ
followed text more = text ++ 10 ∷ more

-- what was mapped
pub option_map_some : {A B P : Type 0} (f : A → B) (o : Option A) (y : B) → option_map f o ≡ Some y → ((x : A) → o ≡ Some x → f x ≡ y → P) → P
option_map_some f None y e go = absurd (none-some y e)
option_map_some f (Some x) y e go = go x refl (same_Some (f x) y e)

-- what was read, and more behind the rest
abbrev pub carry : {A : Type 0} → List ℕ → Read A → Read A
carry more r = option_map (λ p. (p.0, followed p.1 more)) r

-- the same of the same thing
pub carried : {A : Type 0} (more : List ℕ) {p q : A × List ℕ} → p ≡ q → carry more (Some p) ≡ carry more (Some q)
carried {A} more same = ap (λ (p : A × List ℕ). carry more (Some p)) same
