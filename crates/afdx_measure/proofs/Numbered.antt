-- Rows of a list that have different numbers, and where each is found.
use Rattle.std.proofs.Common.{◌≡◌, ◌≢◌, ℕ, ◌<◌, ◌≤◌, ◌==◌, nat_eq, nat_lt, Bool, true, false, List, length, map, get_or, slice_get, position, find, Some, None, ap, sym, ◌∙◌, arith, inl, inr}
use Rattle.std.specs.List.{IsDistinct, position_or_len}
use Rattle.std.proofs.lemmas.Bool.{cases_lt, cond-true, lt-ltb, eqb-true}
use Rattle.std.proofs.lemmas.Bool.Decides.{nat_tests}
use Rattle.std.proofs.lemmas.List.{length-map, get_or-map}
use Rattle.std.proofs.lemmas.List.Folds.{find_at}
use Rattle.std.proofs.lemmas.List.Quantifiers.{position-Some}
use Rattle.std.proofs.lemmas.List.Sums.{position_or_len_is, fails_before_first}
use Rattle.std.proofs.lemmas.Map.Keys.{apart_from_distinct}
use Rattle.std.proofs.lemmas.Option.{slice_get_within, slice_get_past, slice_get-get_or, get_or_from_slice_get, same_Some}

-- what is at the first place that passes is found
pub found_at : {X : Type 0} (p : X → Bool) (xs : List X) (k : ℕ) (x : X) → position p xs ≡ Some k → slice_get xs k ≡ Some x → find p xs ≡ Some x
found_at p xs k x is here =
    let f = position-Some p xs k x is in
    let place = position_or_len_is p xs k x (omega (arith, f.0)) f.2 (λ _. f.1) in
    find_at p xs ∙ ap (slice_get xs) place ∙ here

-- where none passes, none is found
pub absent : {X : Type 0} (p : X → Bool) (xs : List X) → position p xs ≡ None → find p xs ≡ None
absent p xs is =
    elim (cases_lt (position_or_len p xs) (length xs)) [
      | inl lt ↦ let some = cond-true (nat_lt (position_or_len p xs) (length xs)) (Some (position_or_len p xs)) None (lt-ltb (position_or_len p xs) (length xs) lt) in absurd (cc)
      | inr le ↦ find_at p xs ∙ slice_get_past xs (position_or_len p xs) le
    ]

-- nor where the place that is found is past the end
pub past_all : {X : Type 0} (p : X → Bool) (xs : List X) (k : ℕ) → position p xs ≡ Some k → length xs ≤ k → find p xs ≡ None
past_all p xs k is past =
    elim (cases_lt (position_or_len p xs) (length xs)) [
      | inl lt ↦
          let some = cond-true (nat_lt (position_or_len p xs) (length xs)) (Some (position_or_len p xs)) None (lt-ltb (position_or_len p xs) (length xs) lt) in
          let same : position_or_len p xs ≡ k = same_Some (position_or_len p xs) k (sym some ∙ is) in
          absurd (omega (arith, lt, same, past))
      | inr le ↦ find_at p xs ∙ slice_get_past xs (position_or_len p xs) le
    ]

pub passes_at : {X : Type 0} (p : X → Bool) (xs : List X) (k : ℕ) (x : X) → position p xs ≡ Some k → slice_get xs k ≡ Some x → p x ≡ true
passes_at p xs k x is here = ap p (sym (get_or_from_slice_get xs k x x here)) ∙ (position-Some p xs k x is).1

pub none_passes : {X : Type 0} (p : X → Bool) (xs : List X) (k : ℕ) (x : X) → position p xs ≡ None → slice_get xs k ≡ Some x → p x ≡ false
none_passes p xs k x is here =
    elim (cases_lt (position_or_len p xs) (length xs)) [
      | inl lt ↦ let some = cond-true (nat_lt (position_or_len p xs) (length xs)) (Some (position_or_len p xs)) None (lt-ltb (position_or_len p xs) (length xs) lt) in absurd (cc)
      | inr le ↦ ap p (sym (get_or_from_slice_get xs k x x here)) ∙ fails_before_first p xs k x (let lt = slice_get_within xs k x here in omega (arith, lt, le))
    ]

module _ {X : Type 0} (id : X → ℕ) (xs : List X) (distinct : IsDistinct nat_eq (map id xs)) where
  differ : (a b : ℕ) → nat_eq a b ≡ false → a ≢ b
  differ a b apart same = grind (arith, nat_tests)

  id_at : (k : ℕ) (x : X) → slice_get xs k ≡ Some x → get_or (map id xs) k 0 ≡ id x
  id_at k x is = get_or-map id xs k x 0 (slice_get_within xs k x is) ∙ ap id (get_or_from_slice_get xs k x x is)

  apart : (j k : ℕ) (x y : X) → slice_get xs j ≡ Some x → slice_get xs k ≡ Some y → j < k → id x ≢ id y
  apart j k x y j_is k_is lt same =
      let long = length-map xs id in
      let within = slice_get_within xs k y k_is in
      differ (get_or (map id xs) j 0) (get_or (map id xs) k 0) (apart_from_distinct nat_eq (map id xs) j k 0 distinct lt (omega (arith, long, within))) (id_at j x j_is ∙ same ∙ sym (id_at k y k_is))

  -- one number, one place
  pub one_place : (j k : ℕ) (x y : X) → slice_get xs j ≡ Some x → slice_get xs k ≡ Some y → id x ≡ id y → j ≡ k
  one_place j k x y j_is k_is same =
      elim (cases_lt j k) [
        | inl less ↦ absurd (apart j k x y j_is k_is less same)
        | inr le ↦ elim (cases_lt k j) [
          | inl more ↦ absurd (apart k j y x k_is j_is more (sym same))
          | inr ge ↦ omega (arith, le, ge)
        ]
      ]

  -- who has the number is at the place that is found for it
  pub placed : (n k j : ℕ) (x : X) → position (λ (y : X). id y == n) xs ≡ Some k → slice_get xs j ≡ Some x → id x ≡ n → k ≡ j
  placed n k j x is here named =
      let f = position-Some (λ (y : X). id y == n) xs k x is in
      let y = get_or xs k x in
      one_place k j y x (slice_get-get_or xs k x f.0) here (eqb-true (id y) n f.1 ∙ sym named)
