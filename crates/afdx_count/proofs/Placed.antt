-- Elements under their numbers, where the numbers are different.
use Rattle.std.proofs.Common.{◌≡◌, ℕ, zero, suc, ◌<◌, nat_eq, true, false, cond, List, [], ◌∷◌, ◌++◌, set, get_or, length, take, map, find, slice_get, Option, Some, None, refl, subst}
use Rattle.std.proofs.Common.{sym, ap, ◌∙◌, arith, inl, inr, ◌||◌, ◌+◌, ◌≤◌, ◌⊎◌, ⊎_elim, ltb, position, unwrap_or}
use Rattle.std.specs.Prelude.{IfSome, IfNone, not}
use Rattle.std.specs.List.{AllByRecursion, IsDistinct, list_any, position_or_len}
use Rattle.std.proofs.lemmas.Option.{gets, slice_get_within, slice_get-get_or, none-some, same_Some}
use Rattle.std.proofs.lemmas.List.{length-map, length-append, length-take-le, take_all, take-append-le, take-map, take-set-le, get_or-take, get_or-set_same, get_or-set_other}
use Rattle.std.proofs.lemmas.List.Sums.{passes_at_first, prefix_len-le-length}
use Rattle.std.proofs.lemmas.Bool.{cases_Bool, cases_eq, cases_lt, eqb-true, lt-ltb, le-ltb, true≢false}
use Rattle.std.proofs.lemmas.Cmp.{nat_eq_equiv}
use Rattle.std.proofs.lemmas.List.Elements.{All-from_recursion}
use Rattle.std.proofs.lemmas.List.Quantifiers.{position-Some}
use Rattle.afdx_count.specs.Inner.Places.{IsPlaceOf, LeadTo, changed_at, IsIndexed}

module _ {X : Type 0} (number : X → ℕ) where
  -- where a search finds an element by its number, and else the length, is the first place of the number in the list of numbers
  pub first_place : (n : ℕ) (xs : List X) (o : Option ℕ) → o ≡ position (λ x. nat_eq (number x) n) xs → unwrap_or o (length xs) ≡ position_or_len (λ k. nat_eq k n) (map number xs)
  first_place n xs o is = ap (λ p. unwrap_or p (length xs)) is ∙ by_test (cases_lt place (length xs)) ∙ sym (of_numbers xs) where
    place : ℕ
    place = position_or_len (λ x. nat_eq (number x) n) xs

    by_test : (place < length xs) ⊎ (length xs ≤ place) → unwrap_or (cond (ltb place (length xs)) (Some place) None) (length xs) ≡ place
    by_test (inl lt) = rw (lt-ltb place (length xs) lt) refl
    by_test (inr le) = rw (le-ltb place (length xs) le) (omega (arith, le, prefix_len-le-length (λ x. not (nat_eq (number x) n)) xs))

    of_numbers : (ys : List X) → position_or_len (λ k. nat_eq k n) (map number ys) ≡ position_or_len (λ y. nat_eq (number y) n) ys
    of_numbers [] = refl
    of_numbers (y ∷ ys) = ap (λ m. cond (not (nat_eq (number y) n)) (1 + m) 0) (of_numbers ys)

  pub place_step : (places : List ℕ) (xs : List X) (n r : ℕ) → n < length places → ((k d : ℕ) → k < n → get_or places k d ≡ position_or_len (λ j. nat_eq j k) (map number xs))
      → r ≡ position_or_len (λ j. nat_eq j n) (map number xs) → (k d : ℕ) → k < n + 1 → get_or (set places n r) k d ≡ position_or_len (λ j. nat_eq j k) (map number xs)
  place_step places xs n r lt before is k d klt = ⊎_elim
      (λ (here : k ≡ n). subst (λ i. get_or (set places n r) i d ≡ position_or_len (λ j. nat_eq j i) (map number xs)) (sym here) (get_or-set_same places n r d lt ∙ is))
      (λ ne. get_or-set_other places n k r d ne ∙ before k d (omega (arith, klt, ne)))
      (cases_eq k n)

  pub led_to : (places : List ℕ) (n m : ℕ) (xs seen : List X) → LeadTo places (map number xs) → m ≡ n → n < 256 → xs ≡ seen → get_or places m 0 ≡ position_or_len (λ k. nat_eq k n) (map number seen)
  led_to places n m xs seen lead same small view =
      lead m 0 (omega (arith, same, small)) ∙ ap (λ j. position_or_len (λ k. nat_eq k j) (map number xs)) same ∙ ap (λ ys. position_or_len (λ k. nat_eq k n) (map number ys)) view

  -- the same numbers are at the same places
  pub still_indexed : (places : List ℕ) (count : ℕ) (old new : List X) → map number old ≡ map number new → IsIndexed number places count old → IsIndexed number places count new
  still_indexed places count old new same indexed =
      let first : map number (take count old) ≡ map number (take count new) = sym (take-map number count old) ∙ ap (take count) same ∙ take-map number count new in (
        subst (LeadTo places) first indexed.0,
        subst (IsDistinct nat_eq) first indexed.1,
        omega (arith, indexed.2, ap length same, length-map old number, length-map new number),
      )

  -- the place of a number, or of none, is in the list
  pub lies_within : (n count : ℕ) (xs seen : List X) (i : ℕ) → take count xs ≡ seen → length xs ≡ count + 1 → i ≡ position_or_len (λ k. nat_eq k n) (map number seen) → i < length xs
  lies_within n count xs seen i view more is =
      let long = length-take-le count xs (omega (arith, more)) in
      omega (arith, more, is, long, ap length view, prefix_len-le-length (λ k. not (nat_eq k n)) (map number seen), length-map seen number)

  position-within : (n : ℕ) (xs : List X) (i : ℕ) → Some i ≡ position (λ x. nat_eq (number x) n) xs → i < length xs
  position-within n [] i is = absurd (none-some i (sym is))
  position-within n (x ∷ xs) i is = (position-Some (λ y. nat_eq (number y) n) (x ∷ xs) i x (sym is)).0

  -- the element at such a place has the number, and none has it where the place is past the last one
  pub is_there : (n : ℕ) (xs : List X) (i : ℕ) → i ≡ position_or_len (λ k. nat_eq k n) (map number xs) → i < length xs → IsPlaceOf number n xs i
  is_there n xs i is lt =
      let inside : i < length (map number xs) = omega (arith, lt, length-map xs number) in
      slice_get-get_or (map number xs) i n inside
      ∙ ap Some (eqb-true (get_or (map number xs) i n) n (ap (λ j. nat_eq (get_or (map number xs) j n) n) is ∙ passes_at_first (λ k. nat_eq k n) (map number xs) n (omega (arith, is, inside))))

  pub is_nowhere : (n : ℕ) (xs : List X) (i : ℕ) → i ≡ position_or_len (λ k. nat_eq k n) (map number xs) → length xs ≤ i → list_any (λ x. nat_eq n (number x)) xs ≡ false
  is_nowhere n [] i is le = refl
  is_nowhere n (x ∷ xs) i is le =
      elim (cases_Bool (nat_eq (number x) n)) [
        | inl hit ↦ let first = is ∙ ap (λ b. cond (not b) (1 + position_or_len (λ k. nat_eq k n) (map number xs)) 0) hit in absurd (omega (arith, first, le))
        | inr miss ↦ let later = is ∙ ap (λ b. cond (not b) (1 + position_or_len (λ k. nat_eq k n) (map number xs)) 0) miss in
            ap (λ b. b || list_any (λ x. nat_eq n (number x)) xs) (nat_eq_equiv.symm n (number x) ∙ miss)
            ∙ is_nowhere n xs (position_or_len (λ k. nat_eq k n) (map number xs)) refl (omega (arith, later, le))
      ]

  pub within : (n : ℕ) (xs : List X) (o : Option ℕ) → IfSome o (IsPlaceOf number n xs) → IfSome o (λ place. place < length xs)
  within n xs None at = tt
  within n xs (Some i) at = let lt = slice_get_within (map number xs) i n at in omega (arith, lt, length-map xs number)

  -- the element at the place of a number is the one that a search by the number finds
  pub found : (n : ℕ) (xs : List X) (i : ℕ) (x : X) → IsDistinct nat_eq (map number xs) → IsPlaceOf number n xs i → x ≡ get_or xs i x → Some x ≡ find (λ y. nat_eq (number y) n) xs
  unfolding IsDistinct
  found n [] i x d at is = absurd (none-some n at)
  found n (y ∷ ys) zero x d at is =
      let e : nat_eq (number y) n ≡ true = ap (nat_eq (number y)) (sym (same_Some (number y) n at)) ∙ nat_eq_equiv.refl (number y) in
      ap Some is ∙ ap (λ b. cond b (Some y) (find (λ y. nat_eq (number y) n) ys)) (sym e)
  found n (y ∷ ys) (suc i) x d at is =
      let e : nat_eq (number y) n ≡ false = grind (arith, gets, at, All-from_recursion (λ k. nat_eq (number y) k ≡ false) (map number ys) d.0 i n) in
      found n ys i x d.1 at is ∙ ap (λ b. cond b (Some y) (find (λ y. nat_eq (number y) n) ys)) (sym e)

  pub not_found : (n : ℕ) (xs : List X) → list_any (λ x. nat_eq n (number x)) xs ≡ false → None ≡ find (λ y. nat_eq (number y) n) xs
  not_found n [] h = refl
  not_found n (x ∷ xs) h =
      elim (cases_Bool (nat_eq n (number x))) [
        | inl hit ↦ absurd (true≢false (ap (λ b. b || list_any (λ x. nat_eq n (number x)) xs) (sym hit) ∙ h))
        | inr miss ↦ not_found n xs (ap (λ b. b || list_any (λ x. nat_eq n (number x)) xs) (sym miss) ∙ h)
            ∙ ap (λ b. cond b (Some x) (find (λ y. nat_eq (number y) n) xs)) (sym (nat_eq_equiv.symm (number x) n ∙ miss))
      ]

  -- elements of other numbers stay
  stay : (n : ℕ) (f : X → X) (xs : List X) → AllByRecursion (λ k. nat_eq n k ≡ false) (map number xs) → xs ≡ changed_at number n f xs
  stay n f [] all = refl
  stay n f (x ∷ xs) all = ap (λ ys. x ∷ ys) (stay n f xs all.1) ∙ ap (λ b. cond b (f x) x ∷ changed_at number n f xs) (sym (nat_eq_equiv.symm (number x) n ∙ all.0))

  pub changed : (n : ℕ) (f : X → X) (xs : List X) (i : ℕ) (x : X) → IsDistinct nat_eq (map number xs) → IsPlaceOf number n xs i → x ≡ get_or xs i x → set xs i (f x) ≡ changed_at number n f xs
  unfolding IsDistinct
  changed n f [] i x d at is = absurd (none-some n at)
  changed n f (y ∷ ys) zero x d at is =
      let e : number y ≡ n = same_Some (number y) n at in
      let hit : nat_eq (number y) n ≡ true = ap (nat_eq (number y)) (sym e) ∙ nat_eq_equiv.refl (number y) in
      ap (λ z. f z ∷ ys) is
      ∙ ap (λ zs. f y ∷ zs) (stay n f ys (rw e at d.0))
      ∙ ap (λ b. cond b (f y) y ∷ changed_at number n f ys) (sym hit)
  changed n f (y ∷ ys) (suc i) x d at is =
      let miss : nat_eq (number y) n ≡ false = grind (arith, gets, at, All-from_recursion (λ k. nat_eq (number y) k ≡ false) (map number ys) d.0 i n) in
      ap (λ zs. y ∷ zs) (changed n f ys i x d.1 at is) ∙ ap (λ b. cond b (f y) y ∷ changed_at number n f ys) (sym miss)

  any_false : (n : ℕ) (xs : List X) → list_any (λ x. nat_eq n (number x)) xs ≡ false → AllByRecursion (λ k. nat_eq n k ≡ false) (map number xs)
  any_false n [] h = tt
  any_false n (x ∷ xs) h =
      elim (cases_Bool (nat_eq n (number x))) [
        | inl hit ↦ absurd (true≢false (ap (λ b. b || list_any (λ x. nat_eq n (number x)) xs) (sym hit) ∙ h))
        | inr miss ↦ (miss, any_false n xs (ap (λ b. b || list_any (λ x. nat_eq n (number x)) xs) (sym miss) ∙ h))
      ]

  -- where none has the number, all stay
  pub unchanged : (n : ℕ) (f : X → X) (xs : List X) → list_any (λ x. nat_eq n (number x)) xs ≡ false → xs ≡ changed_at number n f xs
  unchanged n f xs h = stay n f xs (any_false n xs h)

  pub numbers-set : (xs : List X) (i : ℕ) (x y : X) → number y ≡ number (get_or xs i x) → map number (set xs i y) ≡ map number xs
  numbers-set [] i x y h = refl
  numbers-set (z ∷ zs) zero x y h = ap (λ n. n ∷ map number zs) h
  numbers-set (z ∷ zs) (suc i) x y h = ap (λ ns. number z ∷ ns) (numbers-set zs i x y h)

  -- ---- the same of a list as it is seen

  pub found_in : (n : ℕ) (xs seen : List X) (i : ℕ) (x : X) → xs ≡ seen → IsDistinct nat_eq (map number seen) → IsPlaceOf number n seen i → x ≡ get_or xs i x → Some x
      ≡ find (λ y. nat_eq (number y) n) seen
  found_in n xs seen i x view d at is = found n seen i x d at (is ∙ ap (λ (ys : List X). get_or ys i x) view)

  pub changed_in : (n : ℕ) (f : X → X) (xs seen : List X) (i : ℕ) (x y : X) → xs ≡ seen → IsDistinct nat_eq (map number seen) → IsPlaceOf number n seen i → x ≡ get_or xs i x → y ≡ f x
      → set xs i y ≡ changed_at number n f seen
  changed_in n f xs seen i x y view d at is y-is =
      ap (λ (zs : List X). set zs i y) view ∙ ap (λ (z : X). set seen i z) y-is ∙ changed n f seen i x d at (is ∙ ap (λ (ys : List X). get_or ys i x) view)

  pub numbers_kept : (ns : List ℕ) (xs : List X) (i : ℕ) (x y : X) → ns ≡ map number xs → number y ≡ number x → x ≡ get_or xs i x → ns ≡ map number (set xs i y)
  numbers_kept ns xs i x y ns-is same-number is = ns-is ∙ sym (numbers-set xs i x y (same-number ∙ ap number is))

  -- numbers that are different stay so where the element at a place gives way to one of its number
  pub still_distinct : (xs : List X) (i : ℕ) (x y : X) → IsDistinct nat_eq (map number xs) → number y ≡ number x → x ≡ get_or xs i x → IsDistinct nat_eq (map number (set xs i y))
  still_distinct xs i x y distinct same-number is = subst (IsDistinct nat_eq) (numbers_kept (map number xs) xs i x y refl same-number is) distinct

  pub number_at : (n : ℕ) (xs seen : List X) (i : ℕ) (x : X) → xs ≡ seen → IsPlaceOf number n seen i → x ≡ get_or xs i x → number x ≡ n
  number_at n xs seen i x view at is = ap number (is ∙ ap (λ (ys : List X). get_or ys i x) view) ∙ by_place seen i at where
    by_place : (ys : List X) (k : ℕ) → slice_get (map number ys) k ≡ Some n → number (get_or ys k x) ≡ n
    by_place [] k e = absurd (none-some n e)
    by_place (y ∷ ys) zero e = same_Some (number y) n e
    by_place (y ∷ ys) (suc k) e = by_place ys k e

  -- elements with one more behind them
  pub first_ones : (count : ℕ) (old new : List X) (x : X) → count ≡ length old → new ≡ old ++ x ∷ [] → take count new ≡ old
  first_ones count old new x count-is is = ap (take count) is ∙ take-append-le count old (x ∷ []) (omega (arith, count-is)) ∙ take_all count old (omega (arith, count-is))

  pub made_index : (places : List ℕ) (count : ℕ) (old new : List X) (x : X) → count ≡ length old → new ≡ old ++ x ∷ [] → LeadTo places (map number old) → IsDistinct nat_eq (map number old)
      → IsIndexed number places count new
  made_index places count old new x count-is is lead distinct =
      let first = ap (map number) (sym (first_ones count old new x count-is is)) in
      (subst (LeadTo places) first lead, subst (IsDistinct nat_eq) first distinct, omega (arith, count-is, ap length is, length-append old (x ∷ [])))

  take-set : (k : ℕ) (xs : List X) (i : ℕ) (y : X) → i < k → take k (set xs i y) ≡ set (take k xs) i y
  take-set zero xs i y lt = absurd (omega (arith, lt))
  take-set (suc k) [] i y lt = refl
  take-set (suc k) (x ∷ xs) zero y lt = refl
  take-set (suc k) (x ∷ xs) (suc i) y lt = ap (λ (zs : List X). x ∷ zs) (take-set k xs i y (omega (arith, lt)))

  -- what is changed at the place of a number is the element of the number; behind the first so many it is none of them
  pub changed_within : (n : ℕ) (f : X → X) (count : ℕ) (xs seen : List X) (i : ℕ) (x y : X) → take count xs ≡ seen → length xs ≡ count + 1 → IsDistinct nat_eq (map number seen)
      → i ≡ position_or_len (λ k. nat_eq k n) (map number seen) → x ≡ get_or xs i x → (number x ≡ n → y ≡ f x) → take count (set xs i y) ≡ changed_at number n f seen
  changed_within n f count xs seen i x y view more distinct place is y-is = ⊎_elim here behind (cases_lt i count) where
    long : length seen ≡ count
    long = ap length (sym view) ∙ length-take-le count xs (omega (arith, more))

    here : i < count → take count (set xs i y) ≡ changed_at number n f seen
    here lt =
        let at = is_there n seen i place (omega (arith, lt, long)) in
        let first : x ≡ get_or (take count xs) i x = is ∙ sym (get_or-take count xs i x lt) in
        take-set count xs i y lt ∙ changed_in n f (take count xs) seen i x y view distinct at first (y-is (number_at n (take count xs) seen i x view at first))

    behind : count ≤ i → take count (set xs i y) ≡ changed_at number n f seen
    behind le = take-set-le count xs i y le ∙ view ∙ unchanged n f seen (is_nowhere n seen i place (omega (arith, le, long)))

  -- what a search by number finds is the place of the number, and where it finds none there is none
  pub placed_at : (n : ℕ) (xs seen : List X) (o : Option ℕ) → o ≡ position (λ x. nat_eq (number x) n) xs → xs ≡ seen → IfSome o (IsPlaceOf number n seen)
  placed_at n xs seen None is view = tt
  placed_at n xs seen (Some i) is view =
      subst (λ (ys : List X). IsPlaceOf number n ys i) view (is_there n xs i (first_place n xs (Some i) is) (position-within n xs i is))

  pub placed_nowhere : (n : ℕ) (xs seen : List X) (o : Option ℕ) → o ≡ position (λ x. nat_eq (number x) n) xs → xs ≡ seen → IfNone o (list_any (λ x. nat_eq n (number x)) seen ≡ false)
  placed_nowhere n xs seen None is view = subst (λ (ys : List X). list_any (λ x. nat_eq n (number x)) ys ≡ false) view (is_nowhere n xs (length xs) (first_place n xs None is) (omega arith))
  placed_nowhere n xs seen (Some i) is view = tt
