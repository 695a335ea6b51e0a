-- Runs of bytes and blanks of a text that is followed by a new line.
use Rattle.std.proofs.Common.{◌≡◌, ℕ, ◌<◌, Bool, true, false, ◌==◌, List, [], ◌∷◌, length, None, is_some, unwrap_or, refl, ap, inl, inr, arith}
use Rattle.std.proofs.lemmas.Bool.{cases_Bool, eqb-true}
use Rattle.std.proofs.lemmas.List.{take-append-le, drop-append-le}
use Rattle.std.proofs.lemmas.List.Sums.{prefix_len-le-length}
use Rattle.std.specs.List.{prefix_len}
use Rattle.toml_parser.specs.Lexical.{first, is_ws, split_while, skip_ws, skip_turn, skip_from}
use Rattle.afdx_toml_split.proofs.Followed.{followed}

-- no run that a line feed stops goes past it
pub prefix_len-followed : (p : ℕ → Bool) (text more : List ℕ) → p 10 ≡ false → prefix_len p (followed text more) ≡ prefix_len p text
prefix_len-followed p [] more stop = rw stop refl
prefix_len-followed p (c ∷ cs) more stop =
    elim (cases_Bool (p c)) [
      | inl passes ↦ rw (passes, prefix_len-followed p cs more stop) refl
      | inr stops ↦ rw stops refl
    ]

pub split_while-followed : (p : ℕ → Bool) (text more : List ℕ) → p 10 ≡ false → split_while p (followed text more) ≡ ((split_while p text).0, followed (split_while p text).1 more)
split_while-followed p text more stop =
    let within = prefix_len-le-length p text in
    rw (prefix_len-followed p text more stop, take-append-le (prefix_len p text) text (10 ∷ more) within, drop-append-le (prefix_len p text) text (10 ∷ more) within) refl

pub skip_ws-followed : (text more : List ℕ) → skip_ws (followed text more) ≡ followed (skip_ws text) more
unfolding skip_ws
skip_ws-followed text more = ap (λ parts. parts.1) (split_while-followed is_ws text more refl)

-- but for half a line end, a byte at the end is skipped whatever follows it
skip_turn-last : (comments inside : Bool) (c next : ℕ) → (c == 13) ≡ false → skip_turn comments inside c next ≡ skip_turn comments inside c 0
skip_turn-last comments inside c next other = rw other refl

half_stops : (comments inside : Bool) → skip_turn comments inside 13 0 ≡ None
half_stops true true = refl
half_stops true false = refl
half_stops false true = refl
half_stops false false = refl

-- what is skipped stays the same where something is left that is no half of a line end
pub skip_from-followed : (comments inside : Bool) (text more : List ℕ) → 0 < length (skip_from comments inside text) → (first (skip_from comments inside text) == 13) ≡ false
    → skip_from comments inside (followed text more) ≡ followed (skip_from comments inside text) more
unfolding skip_from
skip_from-followed comments inside [] more some whole = absurd (omega arith)
skip_from-followed comments inside (c ∷ []) more some whole =
    elim (cases_Bool (is_some (skip_turn comments inside c 0))) [
      | inl goes_on ↦ absurd (let left = rw goes_on at some in omega arith)
      | inr stops ↦ let other : (c == 13) ≡ false = rw stops at whole in rw (skip_turn-last comments inside c 10 other, stops) refl
    ]
skip_from-followed comments inside (c ∷ x ∷ xs) more some whole =
    elim (cases_Bool (is_some (skip_turn comments inside c x))) [
      | inl goes_on ↦ rw goes_on (skip_from-followed comments (unwrap_or (skip_turn comments inside c x) false) (x ∷ xs) more (rw goes_on at some) (rw goes_on at whole))
      | inr stops ↦ rw stops refl
    ]

-- where nothing is left, it goes on behind the line feed
pub skip_from-through : (comments inside : Bool) (text more : List ℕ) → length (skip_from comments inside text) ≡ 0 → skip_from comments inside (followed text more) ≡ skip_from comments false more
unfolding skip_from
skip_from-through comments inside [] more none = refl
skip_from-through comments inside (c ∷ []) more none =
    elim (cases_Bool (is_some (skip_turn comments inside c 0))) [
      | inl goes_on ↦
          elim (cases_Bool (c == 13)) [
            | inl half ↦ absurd (let same : c ≡ 13 = eqb-true c 13 half in let none_goes = rw (same, half_stops comments inside) at goes_on in cc)
            | inr other ↦ rw (skip_turn-last comments inside c 10 other, goes_on) refl
          ]
      | inr stops ↦ absurd (let left = rw stops at none in omega arith)
    ]
skip_from-through comments inside (c ∷ x ∷ xs) more none =
    elim (cases_Bool (is_some (skip_turn comments inside c x))) [
      | inl goes_on ↦ rw goes_on (skip_from-through comments (unwrap_or (skip_turn comments inside c x) false) (x ∷ xs) more (rw goes_on at none))
      | inr stops ↦ absurd (let left = rw stops at none in omega arith)
    ]
