-- What the options of `compare` say: one thing at most.
use Rattle.std.proofs.Common.{◌≡◌, ◌<◌, ℕ, Bool, true, false, List, Option, Some, None, ap, arith, refl, subst, sym, ◌∙◌}
use Rattle.std.specs.Prelude.{IfSome, codes, is_some, unwrap_or}
use Rattle.std.specs.Str.Parse.{digits_value, without_leading_plus}
use Rattle.std.proofs.lemmas.Option.{same_Some}
use Rattle.clap.specs.Words.{Row, Text}
use Rattle.afdx_recordings.specs.declared.recordings.Recordings.{Recordings}
use Rattle.afdx_units.specs.Time.{IsInstant}
use Rattle.afdx_arguments.specs.Requests.{HasNumber, HasOptional, HasUpTo, HasInstant, HasRecordings, is_set}

one_number : (name : Text) (rows : List Row) (a b : ℕ) → HasNumber name rows a → HasNumber name rows b → a ≡ b
one_number name rows a b is_a is_b =
    let same : is_a.0 ≡ is_b.0 = same_Some _ _ (sym is_a.1 ∙ is_b.1) in
    is_a.2.1 ∙ ap (λ (t : Text). digits_value 10 (without_leading_plus t)) same ∙ sym is_b.2.1

one_optional : (name : Text) (rows : List Row) (a b : Option ℕ) → HasOptional name rows a → HasOptional name rows b → a ≡ b
one_optional name rows None None h k = refl
one_optional name rows None (Some b) h k = absurd (h b k)
one_optional name rows (Some a) None h k = absurd (k a h)
one_optional name rows (Some a) (Some b) h k = ap (λ n. Some n) (one_number name rows a b h k)

-- the number is too great
pub too_great : (name : Text) (most : ℕ) (rows : List Row) (entry : Option ℕ) (n : ℕ) → HasOptional name rows entry → n ≡ unwrap_or entry 0 → most < n → (m : ℕ) → HasUpTo name most rows m → ⊥
too_great name most rows entry n has is great m h =
    let same : m ≡ unwrap_or entry 0 = h.is ∙ ap (λ (o : Option ℕ). unwrap_or o 0) (one_optional name rows h.entry entry h.has_entry has) in
    let limit = h.limit in
    omega arith

-- the number is no instant
pub no_instant : (name : Text) (rows : List Row) (ns : ℕ) → HasNumber name rows ns → (IsInstant ns → ⊥) → (instant : Option ℕ) → HasInstant name rows instant → ⊥
no_instant name rows ns has never instant h =
    never (subst (λ (o : Option ℕ). IfSome o IsInstant) (one_optional name rows instant (Some ns) h.entry has) h.limit)

-- at rest, and at an instant
pub two_starts : (rows : List Row) (rest : Bool) (from : Option ℕ) → rest ≡ is_set (codes "rest") rows → rest ≡ true → HasInstant (codes "from") rows from → is_some from ≡ true
    → (recordings : Recordings) → HasRecordings rows recordings → ⊥
two_starts rows rest None is set has some recordings h = absurd (cc)
two_starts rows rest (Some ns) is set has some recordings h =
    let none = h.one_start (h.rest ∙ sym is ∙ set) in
    let same = one_optional (codes "from") rows recordings.from (Some ns) h.from.entry has.entry in
    absurd (let bad : None ≡ Some ns = sym none ∙ same in cc)

pub none_there : (instant : Option ℕ) → is_some instant ≡ false → instant ≡ None
none_there None is = refl
none_there (Some ns) is = absurd cc

pub never_both : {P : Type 0} {b : Bool} → b ≡ true → b ≡ false → P
never_both is other = absurd cc
