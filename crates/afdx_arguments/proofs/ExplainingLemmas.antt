-- The entry of a code, and the arguments after the flag.
use Rattle.std.proofs.Common.{◌≡◌, ℕ, ◌-◌, Bool, true, false, Global, String, List, map, length, take, drop, string_bytes, Option, Some, None, option_map, refl, sym, ap, ◌∙◌}
use Rattle.std.specs.Prelude.{◌&&◌, not, MatchOption, codes, if◌then◌else◌}
use Rattle.std.specs.Borrow.{Bor}
use Rattle.std.specs.List.{drop-map}
use Rattle.std.proofs.lemmas.List.{take_rest}
use Rattle.clap.specs.Words.{Row, Text, first_of}
use Rattle.afdx_remedies.specs.Entries.{entry_of}
use Rattle.afdx_arguments.specs.Explaining.{HasEntry, is_flag_at, is_explained, plain_of}

-- what was found of the code that the entries name
pub has_entry : (rows : List Row) (code : Text) (r : Option (Bor (List ℕ))) → Some code ≡ first_of (codes "CODE") rows → option_map (λ text. text.now) r ≡ entry_of code
    → MatchOption r ((entry : List ℕ) → HasEntry rows entry → ⊥) (λ entry. HasEntry rows entry.now)
has_entry rows code None is none = λ entry h.
    let same : Some code ≡ Some h.0 = is ∙ h.1 in
    let code_is : code ≡ h.0 = cc in
    let found : None ≡ Some entry = none ∙ ap entry_of code_is ∙ h.2 in
    absurd (cc)
has_entry rows code (Some text) is found = (code, sym is, sym found)

chosen : Bool → List Text → List Text
chosen b arguments = if b then drop 1 arguments else arguments

first_alone : (x y : Bool) → x ≡ true → y ≡ false → (x && not y) ≡ true
first_alone true true is other = absurd cc
first_alone true false is other = refl
first_alone false y is other = absurd cc

not_first : (x y : Bool) → x ≡ false → (x && not y) ≡ false
not_first true y is = absurd cc
not_first false y is = refl

second_too : (x y : Bool) → y ≡ true → (x && not y) ≡ false
second_too true true is = refl
second_too true false is = absurd cc
second_too false y is = refl

module _ (arguments : List (String Global)) where
  pub without_flag : is_explained (map string_bytes arguments) ≡ true → is_flag_at 2 (map string_bytes arguments) ≡ false
      → map string_bytes (take (length arguments - 1) (drop 1 arguments)) ≡ plain_of (map string_bytes arguments)
  unfolding chosen
  without_flag is once =
      ap (map string_bytes) (take_rest arguments 1) ∙ sym (drop-map string_bytes 1 arguments)
      ∙ sym (ap (λ b. chosen b (map string_bytes arguments)) (first_alone (is_explained (map string_bytes arguments)) (is_flag_at 2 (map string_bytes arguments)) is once))

  pub with_none : is_explained (map string_bytes arguments) ≡ false → map string_bytes arguments ≡ plain_of (map string_bytes arguments)
  unfolding chosen
  with_none is = sym (ap (λ b. chosen b (map string_bytes arguments)) (not_first (is_explained (map string_bytes arguments)) (is_flag_at 2 (map string_bytes arguments)) is))

  pub with_both : is_flag_at 2 (map string_bytes arguments) ≡ true → map string_bytes arguments ≡ plain_of (map string_bytes arguments)
  unfolding chosen
  with_both is = sym (ap (λ b. chosen b (map string_bytes arguments)) (second_too (is_explained (map string_bytes arguments)) (is_flag_at 2 (map string_bytes arguments)) is))
