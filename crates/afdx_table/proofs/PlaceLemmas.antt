-- Places of links under their numbers.
use Rattle.std.proofs.Common.{◌≡◌, ℕ, zero, suc, ◌+◌, ◌<◌, ◌≤◌, not, true, false, nat_eq, List, [], ◌∷◌, ◌++◌, length, get_or, set, take, replicate, position, Some, refl, sym, ap, inl, inr, ◌∙◌, arith}
use Rattle.std.proofs.lemmas.List.{take_all, get_or-set_same, get_or-set_other}
use Rattle.std.proofs.lemmas.List.Folds.{position_or_len_push}
use Rattle.std.proofs.lemmas.List.Sums.{prefix_len-le-length}
use Rattle.std.proofs.lemmas.Grind.{common_steps}
use Rattle.std.proofs.lemmas.Bool.{cases_eq}
use Rattle.std.proofs.lemmas.Bool.Decides.{nat_tests}
use Rattle.afdx_table.specs.Link.{Link, with_jitter}
use Rattle.afdx_table.specs.Links.{has_link}
use Rattle.afdx_table.specs.Inner.Places.{place_kept, LeadTo, KeepTheSame}
use Rattle.afdx_table.proofs.LinkLemmas.{lt_any}

-- ---- a list that is made longer by zeros

zeros : (n i : ℕ) → ◌≡◌ {A = ℕ} (get_or (replicate n 0) i 0) 0
zeros zero i = refl
zeros (suc n) zero = refl
zeros (suc n) (suc i) = zeros n i

padded : (xs : List ℕ) (n i : ℕ) → get_or (xs ++ replicate n 0) i 0 ≡ get_or xs i 0
padded [] n i = zeros n i
padded (x ∷ xs) n zero = refl
padded (x ∷ xs) n (suc i) = padded xs n i

pub filled : (old new : List ℕ) (most n : ℕ) → length old ≤ most → new ≡ take most old ++ replicate n 0 → KeepTheSame old new
filled old new most n short is number =
    ap (λ (xs : List ℕ). get_or xs number 0) (is ∙ ap (λ (xs : List ℕ). xs ++ replicate n 0) (take_all most old short)) ∙ padded old n number

pub still_lead : (old new : List ℕ) (rows : List Link) → KeepTheSame old new → LeadTo old rows → LeadTo new rows
still_lead old new rows same lead number small = ap place_kept (same number) ∙ lead number small

-- ---- one more link

other_pushed : (id : ℕ) (rows : List Link) (row : Link) → nat_eq row.id id ≡ false → position (λ l. nat_eq l.id id) (rows ++ row ∷ []) ≡ position (λ l. nat_eq l.id id) rows
other_pushed id rows row other = grind (arith, nat_tests, common_steps, position_or_len_push)

new_pushed : (id : ℕ) (rows : List Link) (row : Link) → has_link rows id ≡ false → nat_eq row.id id ≡ true → position (λ l. nat_eq l.id id) (rows ++ row ∷ []) ≡ Some (length rows)
new_pushed id rows row fresh hit =
    let most = prefix_len-le-length (λ (l : Link). not (nat_eq l.id id)) rows in
    grind (arith, nat_tests, common_steps, position_or_len_push, lt_any id rows ∙ fresh, most)

same_id : (a b : ℕ) → a ≡ b → nat_eq a b ≡ true
same_id a b same = grind (arith, nat_tests)

other_id : (a b : ℕ) → (a ≡ b → ⊥) → nat_eq b a ≡ false
other_id a b other = grind (arith, nat_tests)

kept_last : (n count : ℕ) → count ≡ n + 1 → place_kept count ≡ Some n
kept_last n zero is = absurd (omega (arith, is))
kept_last n (suc place) is = ap Some (omega (arith, is))

-- the place of a new link is kept under its number
pub leads-push : (places : List ℕ) (rows : List Link) (row : Link) (number count : ℕ) → LeadTo places rows → has_link rows row.id ≡ false → number ≡ row.id → number < length places
    → count ≡ length rows + 1 → LeadTo (set places number count) (rows ++ row ∷ [])
leads-push places rows row number count lead fresh is inside same n small =
    elim (cases_eq n number) [
      | inl here ↦
          let of_row : row.id ≡ n = sym is ∙ sym here in
          ap (λ i. place_kept (get_or (set places number count) i 0)) here ∙ ap place_kept (get_or-set_same places number count 0 inside) ∙ kept_last (length rows) count same
          ∙ sym (new_pushed n rows row (ap (has_link rows) (sym of_row) ∙ fresh) (same_id row.id n of_row))
      | inr other ↦
          let of_other : nat_eq row.id n ≡ false = other_id n row.id (λ e. other (e ∙ sym is)) in
          ap place_kept (get_or-set_other places number n count 0 other) ∙ lead n small ∙ sym (other_pushed n rows row of_other)
    ]

-- ---- another jitter of one link

pub rows-jitter : (rows : List Link) (place jitter : ℕ) (l : Link) → l ≡ get_or rows place l → set rows place (record l { jitter = jitter }) ≡ with_jitter place jitter rows
rows-jitter [] place jitter l is = refl
rows-jitter (e ∷ rows) zero jitter l is = ap (λ (l : Link). record l { jitter = jitter } ∷ rows) is
rows-jitter (e ∷ rows) (suc place) jitter l is = ap (λ (ls : List Link). e ∷ ls) (rows-jitter rows place jitter l is)
