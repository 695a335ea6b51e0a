-- The least and the greatest are among the delays, and the peak is the first greatest.
use Rattle.std.proofs.Common.{◌≡◌, ℕ, ◌<◌, ◌≤◌, ◌⊎◌, min, max, true, false, List, [], ◌∷◌, get_or, Some, refl, sym, ap, subst, ◌∙◌, arith, inl, inr}
use Rattle.std.specs.Prelude.{MatchOption, All, Contains}
use Rattle.std.specs.List.{fold, best_of}
use Rattle.std.specs.Cmp.{IsStrictWeakOrder}
use Rattle.std.proofs.lemmas.Bool.{cases_lt}
use Rattle.std.proofs.lemmas.Bool.Decides.{nat_tests}
use Rattle.std.proofs.lemmas.List.{length-take, get_or-take}
use Rattle.std.proofs.lemmas.List.MinMax.{IsFirstBest-from_best_of}
use Rattle.std.proofs.lemmas.Option.{slice_get-get_or}
use Rattle.std.proofs.lemmas.List.Elements.{All-nil, All-cons, Contains-append_left, Contains-append_right, Contains-append_cases, Contains-push, Contains-push_cases}
use Rattle.afdx_measure.specs.declared.filling.Filling.{Filling}
use Rattle.afdx_measure.specs.Delays.{range_of, IsLeast, IsGreatest}
use Rattle.afdx_measure.specs.Peak.{is_fuller, peak_of, IsPeak}

-- ---- delays

alone : (n v : ℕ) → Contains (n ∷ []) v → n ≡ v
alone n v h = elim (Contains-push_cases [] n v h) [ inl none ↦ absurd (let lt = none.1 in omega (arith, lt)) | inr is ↦ is ]

picked_more : (n m p v : ℕ) (ns : List ℕ) → (p ≡ n) ⊎ (p ≡ m) → Contains (p ∷ ns) v → Contains (n ∷ m ∷ ns) v
picked_more n m p v ns choice h = elim (Contains-append_cases (p ∷ []) ns v h) [
  | inl first ↦ elim choice [
    | inl is ↦ subst (Contains (n ∷ m ∷ ns)) (sym is ∙ alone p v first) (Contains-append_left (n ∷ []) (m ∷ ns) n (Contains-push [] n))
    | inr is ↦ subst (Contains (n ∷ m ∷ ns)) (sym is ∙ alone p v first) (Contains-append_right (n ∷ []) (m ∷ ns) m (Contains-append_left (m ∷ []) ns m (Contains-push [] m)))
  ]
  | inr later ↦ Contains-append_right (n ∷ m ∷ []) ns v later
]

among : (pick : ℕ → ℕ → ℕ) → ((a b : ℕ) → (pick a b ≡ a) ⊎ (pick a b ≡ b)) → (n : ℕ) (ns : List ℕ) → Contains (n ∷ ns) (fold pick n ns)
among pick choice n [] = Contains-push [] n
among pick choice n (m ∷ ns) = picked_more n m (pick n m) (fold pick (pick n m) ns) ns (choice n m) (among pick choice (pick n m) ns)

min_is : (a b : ℕ) → (min a b ≡ a) ⊎ (min a b ≡ b)
min_is a b = elim (cases_lt a b) [ inl lt ↦ inl (omega (arith, lt)) | inr le ↦ inr (omega (arith, le)) ]

max_is : (a b : ℕ) → (max a b ≡ a) ⊎ (max a b ≡ b)
max_is a b = elim (cases_lt a b) [ inl lt ↦ inr (omega (arith, lt)) | inr le ↦ inl (omega (arith, le)) ]

none_below : (n : ℕ) (ns : List ℕ) → (fold min n ns ≤ n) × All (λ k. fold min n ns ≤ k) ns
none_below n [] = (omega arith, All-nil (λ k. n ≤ k))
none_below n (m ∷ ns) =
    let more = none_below (min n m) ns in
    let le = more.0 in
    (omega (arith, le), All-cons (λ k. fold min (min n m) ns ≤ k) m ns (omega (arith, le)) more.1)

none_above : (n : ℕ) (ns : List ℕ) → (n ≤ fold max n ns) × All (λ k. k ≤ fold max n ns) ns
none_above n [] = (omega arith, All-nil (λ k. k ≤ n))
none_above n (m ∷ ns) =
    let more = none_above (max n m) ns in
    let le = more.0 in
    (omega (arith, le), All-cons (λ k. k ≤ fold max (max n m) ns) m ns (omega (arith, le)) more.1)

pub range_is : (ns : List ℕ) → MatchOption (range_of ns) (ns ≡ []) (λ r. IsLeast ns r.least × IsGreatest ns r.greatest)
range_is [] = refl
range_is (n ∷ ns) =
    let low = none_below n ns in
    let high = none_above n ns in (
      record { is_one = among min min_is n ns; none_below = All-cons (λ k. fold min n ns ≤ k) n ns low.0 low.1 },
      record { is_one = among max max_is n ns; none_above = All-cons (λ k. k ≤ fold max n ns) n ns high.0 high.1 },
    )

-- ---- peaks

by_bytes : IsStrictWeakOrder is_fuller
by_bytes = record { one_way = λ x y h. grind (arith, nat_tests); chain = λ x y z h k. grind (arith, nat_tests) }

not_fuller : (f g : Filling) → is_fuller f g ≡ false → f.bytes ≤ g.bytes
not_fuller f g h = grind (arith, nat_tests)

fuller_than : (f g : Filling) → is_fuller f g ≡ true → g.bytes < f.bytes
fuller_than f g h = grind (arith, nat_tests)

pub peak_is : (all : List Filling) → IsPeak all (peak_of all)
peak_is [] = refl
peak_is (f ∷ fs) =
    let best = IsFirstBest-from_best_of by_bytes f fs in
    let b = best.0 in
    let first = best.1 in
    let at : (d : Filling) → get_or (f ∷ fs) b d ≡ best_of is_fuller f fs = λ d. one (sym (slice_get-get_or (f ∷ fs) b d first.0) ∙ slice_get-get_or (f ∷ fs) b f first.0) ∙ best.2 in (
      b,
      slice_get-get_or (f ∷ fs) b f first.0 ∙ ap Some best.2,
      λ k d lt. subst (λ (p : Filling). (get_or (f ∷ fs) k d).bytes ≤ p.bytes) (at d) (not_fuller (get_or (f ∷ fs) k d) (get_or (f ∷ fs) b d) (first.1 k d lt)),
      λ k d lt.
          let less : k < b = omega (arith, lt, length-take b (f ∷ fs)) in
          subst (λ (p : Filling). p.bytes < (best_of is_fuller f fs).bytes) (sym (get_or-take b (f ∷ fs) k d less))
          (subst (λ (p : Filling). (get_or (f ∷ fs) k d).bytes < p.bytes) (at d) (fuller_than (get_or (f ∷ fs) b d) (get_or (f ∷ fs) k d) (first.2 k d less))),
    ) where
      one : {a b : Filling} → Some a ≡ Some b → a ≡ b
      one e = (cc)
