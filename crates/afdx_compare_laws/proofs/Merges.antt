-- There is one merge of captures, and of some of them one that is left of it.
use Rattle.std.proofs.Common.{◌≡◌, ℕ, cond, Bool, true, false, List, [], ◌∷◌, drop, refl, sym, ap, subst, ◌∙◌, arith, inl, inr}
use Rattle.std.specs.Prelude.{◌==◌, filter}
use Rattle.std.specs.List.{AllByRecursion}
use Rattle.std.proofs.ByRecursion.{all_kept_by}
use Rattle.std.proofs.lemmas.Bool.{cases_Bool, cases_eq, eqb-true, eq-eqb, ne_eqb}
use Rattle.afdx_merging.specs.Merge.{Arrival, at_place, IsBy, AreInOrder}
use Rattle.afdx_compare_laws.proofs.Narrowing.{kept_one, left_one, filter_swaps}

pub order_some : (p : Arrival → Bool) (xs : List Arrival) → AreInOrder xs → AreInOrder (filter p xs)
order_some p [] order = tt
order_some p (x ∷ xs) order = elim (p x) as (λ b. AreInOrder (cond b (x ∷ filter p xs) (filter p xs))) [
  | true ↦ (all_kept_by p (IsBy x) xs order.0, order_some p xs order.1)
  | false ↦ order_some p xs order.1
]

-- ---- those at a place

pub some_at : (p : Arrival → Bool) (k : ℕ) (xs : List Arrival) → at_place k (filter p xs) ≡ filter p (at_place k xs)
some_at p k xs = filter_swaps (λ a. a.place == k) p xs

pub none_at : (q : ℕ → Bool) (k : ℕ) (xs : List Arrival) → q k ≡ false → filter (λ a. q a.place) (at_place k xs) ≡ []
none_at q k [] silent = refl
none_at q k (x ∷ xs) silent = elim (cases_Bool (x.place == k)) [
  | inl here ↦ ap (λ (ys : List Arrival). filter (λ a. q a.place) ys) (kept_one (λ a. a.place == k) x xs here)
      ∙ left_one (λ a. q a.place) x (at_place k xs) (ap q (eqb-true x.place k here) ∙ silent) ∙ none_at q k xs silent
  | inr other ↦ ap (λ (ys : List Arrival). filter (λ a. q a.place) ys) (left_one (λ a. a.place == k) x xs other) ∙ none_at q k xs silent
]

-- ---- the only one

abbrev head_of : Arrival → List Arrival → Arrival
head_of x [] = x
head_of x (y ∷ ys) = y

at_its_own : (x : Arrival) (xs : List Arrival) → at_place x.place (x ∷ xs) ≡ x ∷ at_place x.place xs
at_its_own x xs = ap (λ (b : Bool). cond b (x ∷ at_place x.place xs) (at_place x.place xs)) (eq-eqb x.place x.place refl)

at_another : (x : Arrival) (k : ℕ) (xs : List Arrival) → (x.place ≡ k → ⊥) → at_place k (x ∷ xs) ≡ at_place k xs
at_another x k xs other = ap (λ (b : Bool). cond b (x ∷ at_place k xs) (at_place k xs)) (ne_eqb x.place k other)

none_first : (x : Arrival) (xs : List Arrival) → [] ≡ x ∷ xs → ⊥
none_first x xs is = absurd (let never = is in cc)

-- what comes first in one list, and is at another place in the other list, comes after its first
is_by : (x y : Arrival) (xs ys : List Arrival) → AllByRecursion (IsBy y) ys → (y.place ≡ x.place → ⊥) → at_place x.place (x ∷ xs) ≡ at_place x.place (y ∷ ys) → IsBy y x
is_by x y xs ys all other same =
    (subst (AllByRecursion (IsBy y)) (sym (at_another y x.place ys other) ∙ sym same ∙ at_its_own x xs) (all_kept_by (λ a. a.place == x.place) (IsBy y) ys all)).0

not_both : (x y : Arrival) → IsBy x y → IsBy y x → x.place ≡ y.place
not_both x y one other = elim one [
  | inl less ↦ elim other [
    | inl more ↦ (let never : ⊥ = omega (arith, less, more) in absurd never)
    | inr same ↦ (let equal = same.0 in let never : ⊥ = omega (arith, less, equal) in absurd never)
  ]
  | inr same ↦ (let here = same.1 in elim other [
    | inl more ↦ (let equal = same.0 in let never : ⊥ = omega (arith, more, equal) in absurd never)
    | inr too ↦ (let there = too.1 in omega (arith, here, there))
  ])
]

first_same : (x y : Arrival) (xs ys : List Arrival) → AreInOrder (x ∷ xs) → AreInOrder (y ∷ ys) → ((k : ℕ) → at_place k (x ∷ xs) ≡ at_place k (y ∷ ys)) → x ≡ y
first_same x y xs ys order other_order same = elim (cases_eq x.place y.place) [
  | inl equal ↦ ap (head_of x) (sym (at_its_own x xs) ∙ same x.place ∙ ap (λ (k : ℕ). at_place k (y ∷ ys)) equal ∙ at_its_own y ys)
  | inr differ ↦ absurd (differ (not_both x y
      (is_by y x ys xs order.0 differ (sym (same y.place)))
      (is_by x y xs ys other_order.0 (λ is. differ (sym is)) (same x.place))))
]

rest_same : (x : Arrival) (xs ys : List Arrival) (k : ℕ) → at_place k (x ∷ xs) ≡ at_place k (x ∷ ys) → at_place k xs ≡ at_place k ys
rest_same x xs ys k same = by (x.place == k) same where
  by : (b : Bool) → cond b (x ∷ at_place k xs) (at_place k xs) ≡ cond b (x ∷ at_place k ys) (at_place k ys) → at_place k xs ≡ at_place k ys
  by true is = ap (λ (zs : List Arrival). drop 1 zs) is
  by false is = is

pub only_one : (xs ys : List Arrival) → AreInOrder xs → AreInOrder ys → ((k : ℕ) → at_place k xs ≡ at_place k ys) → xs ≡ ys
only_one [] [] order other_order same = refl
only_one [] (y ∷ ys) order other_order same = absurd (none_first y (at_place y.place ys) (same y.place ∙ at_its_own y ys))
only_one (x ∷ xs) [] order other_order same = absurd (none_first x (at_place x.place xs) (sym (same x.place) ∙ at_its_own x xs))
only_one (x ∷ xs) (y ∷ ys) order other_order same =
    let first = first_same x y xs ys order other_order same in
    let rest = only_one xs ys order.1 other_order.1 (λ k. rest_same x xs ys k (same k ∙ ap (λ (z : Arrival). at_place k (z ∷ ys)) (sym first))) in
    ap (λ (z : Arrival). z ∷ xs) first ∙ ap (λ (zs : List Arrival). y ∷ zs) rest
