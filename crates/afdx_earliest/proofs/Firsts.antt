-- The first of some numbers, from the first of some and the first of the next; and what it says of the instants.
use Rattle.std.proofs.Common.{◌≡◌, ◌≢◌, ℕ, zero, suc, ◌+◌, ◌*◌, ◌/◌, ◌<◌, ◌≤◌, List, [], ◌∷◌, length, map, take, set, get_or, replicate, Option, Some, None}
use Rattle.std.proofs.Common.{refl, ap, sym, ◌∙◌, arith, inl, inr, get_or-set_same, get_or-set_other}
use Rattle.std.proofs.lemmas.List.{get_or-take, get_or-map, get_or-replicate, map-set, set-get_or, length-map, length-take-le, length-set}
use Rattle.std.proofs.lemmas.Bool.{cases_lt, cases_eq, le-leb, lt-leb}
use Rattle.std.proofs.lemmas.Option.{same_Some}
use Rattle.std.proofs.Math.Seq.{take-set-lt}
use Rattle.afdx_units.specs.Time.{stamp_end}
use Rattle.afdx_earliest.specs.Instants.{instant_at, IsFirstIn}
use Rattle.afdx_earliest.specs.Inner.Groups.{none, instant_in, instants_in, IsFirstFrom, AreKept, AreGrouped}

-- ---- the instants that numbers are kept for

pub length-instants_in : (places : ℕ) (numbers : List ℕ) → length numbers ≡ 24 → places ≤ 24 → length (instants_in places numbers) ≡ places
length-instants_in places numbers long few = length-map (take places numbers) instant_in ∙ length-take-le places numbers (omega (arith, long, few))

-- a place of the list is one of the places
pub place_within : (places : ℕ) (numbers : List ℕ) (instants : List (Option ℕ)) (place : ℕ) → length numbers ≡ 24 → places ≤ 24 → instants_in places numbers ≡ instants
    → place < length instants → place < places
place_within places numbers instants place long few is within = let n = length-instants_in places numbers long few in let m = ap length is in omega (arith, within, n, m)

pub instant_read : (places : ℕ) (numbers : List ℕ) (j : ℕ) → length numbers ≡ 24 → places ≤ 24 → j < places → instant_at (instants_in places numbers) j ≡ instant_in (get_or numbers j 0)
instant_read places numbers j long few lt =
    let taken : j < length (take places numbers) = let n = length-take-le places numbers (omega (arith, long, few)) in omega (arith, lt, n) in
    get_or-map instant_in (take places numbers) j 0 None taken ∙ ap instant_in (get_or-take places numbers j 0 lt)

pub late : (n : ℕ) → stamp_end ≤ n → instant_in n ≡ None
late n le = rw (le-leb stamp_end n le) refl

pub early : (n : ℕ) → n < stamp_end → instant_in n ≡ Some n
early n lt = rw (lt-leb stamp_end n lt) refl

-- a number that is kept for an instant is that
kept_is : (n u : ℕ) → instant_in n ≡ Some u → n ≡ u
kept_is n u is = elim (cases_lt n stamp_end) [
  | inl lt ↦ same_Some n u (sym (early n lt) ∙ is)
  | inr le ↦ absurd (clash (sym (late n le) ∙ is))
] where
  clash : None ≡ Some u → ⊥
  clash e = absurd cc

module _ (places : ℕ) (numbers : List ℕ) (long : length numbers ≡ 24) (few : places ≤ 24) (first least : ℕ) (is : IsFirstFrom numbers 0 24 first least) where
  -- where the least is kept for none, there is none
  pub none_at_all : stamp_end ≤ least → IsFirstIn (instants_in places numbers) (length (instants_in places numbers)) None
  none_at_all le j within =
      let lt : j < places = let n = length-instants_in places numbers long few in omega (arith, within, n) in
      let known = is.no_less j (omega arith) (omega (arith, lt, few)) in
      instant_read places numbers j long few lt ∙ late (get_or numbers j 0) (omega (arith, known, le))

  -- else it is the first
  pub first_of_all : ((j : ℕ) → places ≤ j → j < 24 → get_or numbers j 0 ≡ none) → least < stamp_end → IsFirstIn (instants_in places numbers) (length (instants_in places numbers)) (Some (first, least))
  first_of_all no_place lt =
      let count = length-instants_in places numbers long few in
      let here = is.here in
      let inside : first < places = elim (cases_lt first places) [
        | inl before ↦ before
        | inr past ↦ let empty = no_place first past is.within in absurd (omega (arith, empty, here, lt))
      ] in
      record {
        within = omega (arith, inside, count);
        here = instant_read places numbers first long few inside ∙ ap instant_in here ∙ early least lt;
        sooner = λ j u within at.
            let before : j < places = omega (arith, within, count) in
            let same = kept_is (get_or numbers j 0) u (sym (instant_read places numbers j long few before) ∙ at) in
            let known = is.no_less j (omega arith) (omega (arith, before, few)) in
            omega (arith, same, known);
        former = λ j u within at.
            let before : j < places = omega (arith, within, inside) in
            let same = kept_is (get_or numbers j 0) u (sym (instant_read places numbers j long few before) ∙ at) in
            let known = is.former j (omega arith) within in
            omega (arith, same, known);
      }

-- ---- none has an instant

same_numbers : (low : ℕ) → low + 6 ≤ 24 → IsFirstFrom (replicate 24 none) low (low + 6) low none
same_numbers low few = record {
  past = omega arith;
  within = omega arith;
  here = get_or-replicate 24 low none 0 (omega (arith, few));
  no_less = λ j from to. let e = get_or-replicate 24 j none 0 (omega (arith, to, few)) in omega (arith, e);
  former = λ j from to. absurd (omega (arith, from, to));
}

pub grouped_fresh : (places : ℕ) → places ≤ 24 → AreGrouped places (replicate 24 none) (replicate 4 none) (0 ∷ 6 ∷ 12 ∷ 18 ∷ [])
grouped_fresh places few = record {
  long = refl;
  few = few;
  four = refl;
  four_firsts = refl;
  no_place = λ j past within. get_or-replicate 24 j none 0 within;
  groups = groups;
} where
  groups : (g : ℕ) → g < 4 → IsFirstFrom (replicate 24 none) (g * 6) (g * 6 + 6) (get_or (0 ∷ 6 ∷ 12 ∷ 18 ∷ []) g 0) (get_or (replicate 4 none) g 0)
  groups zero lt = same_numbers 0 (omega arith)
  groups (suc zero) lt = same_numbers 6 (omega arith)
  groups (suc (suc zero)) lt = same_numbers 12 (omega arith)
  groups (suc (suc (suc zero))) lt = same_numbers 18 (omega arith)
  groups (suc (suc (suc (suc g)))) lt = absurd (omega (arith, lt))

fresh_none : (n m : ℕ) → n ≤ m → map instant_in (take n (replicate m none)) ≡ replicate n None
fresh_none zero m le = refl
fresh_none (suc n) zero le = absurd (omega arith)
fresh_none (suc n) (suc m) le = ap (λ (is : List (Option ℕ)). None ∷ is) (fresh_none n m (omega arith))

pub instants_fresh : (places : ℕ) → places ≤ 24 → instants_in places (replicate 24 none) ≡ replicate places None
instants_fresh places few = fresh_none places 24 few

-- ---- each group has its least

pub grouped_of : (places : ℕ) (numbers leasts firsts : List ℕ) → AreKept places numbers → length leasts ≡ 4 → length firsts ≡ 4
    → ((g : ℕ) → g < 4 → IsFirstFrom numbers (g * 6) (g * 6 + 6) (get_or firsts g 0) (get_or leasts g 0)) → AreGrouped places numbers leasts firsts
grouped_of places numbers leasts firsts kept four four_firsts groups = record { long = kept.long; few = kept.few; four = four; four_firsts = four_firsts; no_place = kept.no_place; groups = groups }

-- ---- a place has another instant

-- numbers elsewhere change nothing of a group
pub others_stay : {numbers : List ℕ} {low high first least : ℕ} (place number : ℕ) → ((j : ℕ) → low ≤ j → j < high → j ≢ place) → IsFirstFrom numbers low high first least
    → IsFirstFrom (set numbers place number) low high first least
others_stay {numbers} {low} {high} {first} place number apart is = record {
  past = is.past;
  within = is.within;
  here = get_or-set_other numbers place first number 0 (apart first is.past is.within) ∙ is.here;
  no_less = λ j from to. let e = get_or-set_other numbers place j number 0 (apart j from to) in let known = is.no_less j from to in omega (arith, e, known);
  former = λ j from to. let w = is.within in let e = get_or-set_other numbers place j number 0 (apart j from (omega (arith, to, w))) in let known = is.former j from to in omega (arith, e, known);
}

module _ (places : ℕ) (numbers leasts firsts : List ℕ) (ok : AreGrouped places numbers leasts firsts) (place number : ℕ) (inside : place < places) where
  pub grouped_set : (first least : ℕ) → IsFirstFrom (set numbers place number) (place / 6 * 6) (place / 6 * 6 + 6) first least
      → AreGrouped places (set numbers place number) (set leasts (place / 6) least) (set firsts (place / 6) first)
  grouped_set first least is = record {
    long = length-set numbers place number ∙ ok.long;
    few = ok.few;
    four = length-set leasts (place / 6) least ∙ ok.four;
    four_firsts = length-set firsts (place / 6) first ∙ ok.four_firsts;
    no_place = λ j past within. let other : j ≢ place = omega (arith, past, inside) in get_or-set_other numbers place j number 0 other ∙ ok.no_place j past within;
    groups = groups;
  } where
    four : place / 6 < 4
    four = let few = ok.few in omega (arith, inside, few)

    groups : (g : ℕ) → g < 4 → IsFirstFrom (set numbers place number) (g * 6) (g * 6 + 6) (get_or (set firsts (place / 6) first) g 0) (get_or (set leasts (place / 6) least) g 0)
    groups g lt = elim (cases_eq g (place / 6)) [
      | inl same ↦
          let n = ok.four in let m = ok.four_firsts in
          let a = get_or-set_same firsts (place / 6) first 0 (omega (arith, four, m)) in
          let b = get_or-set_same leasts (place / 6) least 0 (omega (arith, four, n)) in
          rw (same, a, b) is
      | inr other ↦
          rw (get_or-set_other firsts (place / 6) g first 0 other, get_or-set_other leasts (place / 6) g least 0 other)
          (others_stay place number (λ j from to. let apart : j ≢ place = omega (arith, from, to, other) in apart) (ok.groups g lt))
    ]

module _ (places : ℕ) (numbers : List ℕ) (place number : ℕ) (inside : place < places) where
  pub instants_set : (instant : Option ℕ) → instant_in number ≡ instant → instants_in places (set numbers place number) ≡ set (instants_in places numbers) place instant
  instants_set instant is =
      ap (map instant_in) (take-set-lt places numbers place number inside)
      ∙ map-set instant_in (take places numbers) place number
      ∙ ap (set (instants_in places numbers) place) is

  -- or the same one
  pub instants_same : (instant : Option ℕ) → instant_in number ≡ instant → get_or numbers place 0 ≡ number → instants_in places numbers ≡ set (instants_in places numbers) place instant
  instants_same instant is same =
      ap (instants_in places) (sym (set-get_or numbers place 0) ∙ ap (set numbers place) same)
      ∙ instants_set instant is
