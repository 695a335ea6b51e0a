-- Links as they are found by number.
use Rattle.std.proofs.Common.{◌≡◌, ℕ, Bool, zero, suc, ◌+◌, ◌<◌, not, true, false, cond, is_some, nat_eq, nat_lt, List, [], ◌∷◌, length, get_or, find, position, slice_get, Option}
use Rattle.std.proofs.Common.{Some, None, refl, sym, ap, inl, inr, ◌∙◌, arith}
use Rattle.std.specs.List.{prefix_len}
use Rattle.std.proofs.lemmas.Bool.{cases_Bool}
use Rattle.std.proofs.lemmas.Bool.Decides.{nat_tests}
use Rattle.std.proofs.lemmas.Option.{slice_get-get_or}
use Rattle.std.proofs.lemmas.List.Quantifiers.{position-Some}
use Rattle.afdx_table.specs.Link.{Link}
use Rattle.afdx_table.specs.Links.{has_link}
use Rattle.afdx_table.specs.Inner.Found.{LinksAreAtTheirPlaces}

absent : {A : Type 0} (o : Option A) → is_some o ≡ false → o ≡ None
absent None h = refl
absent (Some x) h = absurd cc

-- ---- the row at the place of a number is the one that a search by number finds

module _ (id : ℕ) where
  pub lt_any : (rows : List Link) → nat_lt (prefix_len (λ l. not (nat_eq l.id id)) rows) (length rows) ≡ has_link rows id
  lt_any [] = refl
  lt_any (l ∷ rows) = elim (cases_Bool (nat_eq l.id id)) [
    | inl here ↦ rw here (grind (arith, nat_tests))
    | inr other ↦ rw other (one_more (prefix_len (λ l. not (nat_eq l.id id)) rows) (length rows) ∙ lt_any rows)
  ] where
    one_more : (n m : ℕ) → nat_lt (1 + n) (suc m) ≡ nat_lt n m
    one_more n m = grind (arith, nat_tests)

  some_cond : (b : Bool) (i : ℕ) → is_some (cond b (Some i) None) ≡ b
  some_cond true i = refl
  some_cond false i = refl

  is_some-position : (rows : List Link) → is_some (position (λ l. nat_eq l.id id) rows) ≡ has_link rows id
  is_some-position rows = some_cond _ _ ∙ lt_any rows

  is_some-find : (rows : List Link) → is_some (find (λ l. nat_eq l.id id) rows) ≡ has_link rows id
  is_some-find [] = refl
  is_some-find (l ∷ rows) = elim (cases_Bool (nat_eq l.id id)) [
    | inl here ↦ rw here refl
    | inr other ↦ rw other (is_some-find rows)
  ]

  find_first : (rows : List Link) (i : ℕ) (d : Link) → i < length rows → nat_eq (get_or rows i d).id id ≡ true → ((k : ℕ) → k < i → nat_eq (get_or rows k d).id id ≡ false)
      → find (λ l. nat_eq l.id id) rows ≡ Some (get_or rows i d)
  find_first [] i d lt here before = absurd (omega arith)
  find_first (l ∷ rows) zero d lt here before = rw here refl
  find_first (l ∷ rows) (suc i) d lt here before = rw (before 0 (omega arith)) (find_first rows i d (omega arith) here (λ k kt. before (suc k) (omega arith)))

  pub found : (rows : List Link) (i : ℕ) → Some i ≡ position (λ l. nat_eq l.id id) rows → slice_get rows i ≡ find (λ l. nat_eq l.id id) rows
  found [] i at = refl
  found (l ∷ rows) i at =
      let first = position-Some (λ (m : Link). nat_eq m.id id) (l ∷ rows) i l (sym at) in
      slice_get-get_or (l ∷ rows) i l first.0 ∙ sym (find_first (l ∷ rows) i l first.0 first.1 first.2)

  pub not_found : (rows : List Link) → None ≡ position (λ l. nat_eq l.id id) rows → None ≡ find (λ l. nat_eq l.id id) rows
  not_found rows at = sym (absent _ (is_some-find rows ∙ sym (is_some-position rows) ∙ ap is_some (sym at)))

-- there is a link of a number if it has a place
pub contained : (id : ℕ) (rows : List Link) (place : Option ℕ) → place ≡ position (λ l. nat_eq l.id id) rows → is_some place ≡ has_link rows id
contained id rows place is = ap is_some is ∙ is_some-position id rows

pub links_are_at_their_places : LinksAreAtTheirPlaces
links_are_at_their_places = record {
  at = λ table number place is. found number table.links place (sym is);
  none = λ table number is. sym (not_found number table.links (sym is));
}
