-- Arrivals by stamp, cut at an instant.
use Rattle.std.proofs.Common.{◌≡◌, ℕ, ◌<◌, ◌≤◌, nat_le, List, [], ◌∷◌, ◌++◌, refl, ap, ◌∙◌, arith, inl, inr}
use Rattle.std.specs.List.{AllByRecursion}
use Rattle.std.proofs.lemmas.Bool.{cases_Bool, leb-true, leb-false}
use Rattle.afdx_core.specs.Merge.{Arrival, placed, by_stamp}
use Rattle.afdx_paced.specs.Laws.{from, below, MergesAreCut}

placed_all : (P : Arrival → Type 0) (a : Arrival) (arrivals : List Arrival) → P a → AllByRecursion P arrivals → AllByRecursion P (placed a arrivals)
placed_all P a [] here all = (here, tt)
placed_all P a (b ∷ arrivals) here all =
    elim (cases_Bool (nat_le a.frame.stamp b.frame.stamp)) [
      | inl before ↦ rw before (here, all)
      | inr after ↦ rw after (all.0, placed_all P a arrivals here all.1)
    ]

abbrev pub Low : ℕ → List Arrival → Type 0
Low h arrivals = AllByRecursion (λ (a : Arrival). a.frame.stamp < h) arrivals

abbrev pub High : ℕ → List Arrival → Type 0
High h arrivals = AllByRecursion (λ (a : Arrival). h ≤ a.frame.stamp) arrivals

pub all_low : (h : ℕ) (arrivals : List Arrival) → Low h (by_stamp (below h arrivals))
all_low h [] = tt
all_low h (a ∷ arrivals) =
    elim (cases_Bool (nat_le h a.frame.stamp)) [
      | inl late ↦ rw late (all_low h arrivals)
      | inr early ↦ let lt = leb-false h a.frame.stamp early in
          rw early (placed_all (λ (b : Arrival). b.frame.stamp < h) a (by_stamp (below h arrivals)) (omega (arith, lt)) (all_low h arrivals))
    ]

pub all_high : (h : ℕ) (arrivals : List Arrival) → High h (by_stamp (from h arrivals))
all_high h [] = tt
all_high h (a ∷ arrivals) =
    elim (cases_Bool (nat_le h a.frame.stamp)) [
      | inl late ↦ let le = leb-true h a.frame.stamp late in
          rw late (placed_all (λ (b : Arrival). h ≤ b.frame.stamp) a (by_stamp (from h arrivals)) le (all_high h arrivals))
      | inr early ↦ rw early (all_high h arrivals)
    ]

-- an early arrival has its place among the early ones
early_in : (h : ℕ) (a : Arrival) (low high : List Arrival) → a.frame.stamp < h → High h high → placed a (low ++ high) ≡ placed a low ++ high
early_in h a [] [] lt all = refl
early_in h a [] (b ∷ high) lt all =
    elim (cases_Bool (nat_le a.frame.stamp b.frame.stamp)) [
      | inl before ↦ rw before refl
      | inr after ↦ let past = leb-false a.frame.stamp b.frame.stamp after in let here = all.0 in absurd (omega (arith, lt, past, here))
    ]
early_in h a (b ∷ low) high lt all =
    elim (cases_Bool (nat_le a.frame.stamp b.frame.stamp)) [
      | inl before ↦ rw before refl
      | inr after ↦ rw after (ap (λ (rest : List Arrival). b ∷ rest) (early_in h a low high lt all))
    ]

-- a late one among the late ones
late_in : (h : ℕ) (a : Arrival) (low high : List Arrival) → h ≤ a.frame.stamp → Low h low → placed a (low ++ high) ≡ low ++ placed a high
late_in h a [] high le all = refl
late_in h a (b ∷ low) high le all =
    elim (cases_Bool (nat_le a.frame.stamp b.frame.stamp)) [
      | inl before ↦ let no = leb-true a.frame.stamp b.frame.stamp before in let here = all.0 in absurd (omega (arith, le, no, here))
      | inr after ↦ rw after (ap (λ (rest : List Arrival). b ∷ rest) (late_in h a low high le all.1))
    ]

pub merges_are_cut : MergesAreCut
merges_are_cut h [] = refl
merges_are_cut h (a ∷ arrivals) =
    let rest = ap (placed a) (merges_are_cut h arrivals) in
    elim (cases_Bool (nat_le h a.frame.stamp)) [
      | inl late ↦ let le = leb-true h a.frame.stamp late in
          rw late (rest ∙ late_in h a (by_stamp (below h arrivals)) (by_stamp (from h arrivals)) le (all_low h arrivals))
      | inr early ↦ let lt = leb-false h a.frame.stamp early in
          rw early (rest ∙ early_in h a (by_stamp (below h arrivals)) (by_stamp (from h arrivals)) (omega (arith, lt)) (all_high h arrivals))
    ]
