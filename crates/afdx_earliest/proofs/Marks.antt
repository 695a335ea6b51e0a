-- Marks of the numbers that are less than an instant's, and what they say of the instants; the first mark taken out.
use Rattle.std.proofs.Common.{◌≡◌, ◌≢◌, ℕ, suc, ◌+◌, ◌-◌, ◌*◌, ◌%◌, ◌^◌, ◌<◌, ◌≤◌, cond, ltb, ◌&&◌, Bool, true, false, List, length, map, set, get_or, replicate, None, min, ℤ, pos, ◌-ℤ◌, to_z, of_z}
use lib.Lanes.{zip2, mask_l, top}
use lib.Signed.{lt_z}
use mir.Val.{SFits}
use Rattle.std.proofs.lemmas.Int.{ints, to_z-of_z, to_z_pos}
use Rattle.std.proofs.lemmas.Simd.{zip2_splat_left, map-map, mask_l-mod, mask_l-lt, bit_mask_l}
use Rattle.std.proofs.Common.{refl, ap, ap₂, sym, ◌∙◌, subst, arith, inl, inr, w32, w64, bit_and, pow_pos, pow_mono, get_or-set_same, get_or-set_other}
use Rattle.std.specs.Int.{bit_at, bit_not, trailing_zeros}
use Rattle.std.proofs.Math.Nat.{two-pow-succ}
use Rattle.std.proofs.lemmas.Nat.{and-not, and_comm}
use Rattle.std.proofs.lemmas.Nat.Bits.{bit_at-trailing_zeros, bit_at_clear_same, bit_at_clear_other, bit_at_above, bit_at_and, bit_at_cat_low, bit_at_cat_high, bit_at_not}
use Rattle.std.proofs.lemmas.Nat.Bits.{bit_at_ones, bit_at_ones_above, and_pow}
use Rattle.std.proofs.lemmas.List.{get_or-replicate, get_or-map, length-map, length-set, get_or_past}
use Rattle.std.proofs.lemmas.Bool.{cases_lt, cases_eq, lt-ltb, le-ltb}
use Rattle.afdx_units.specs.Time.{stamp_end, is_before}
use Rattle.afdx_earliest.specs.Instants.{instant_at}
use Rattle.afdx_earliest.specs.Dues.{AreMarked, IsTakenAt}
use Rattle.afdx_earliest.specs.Inner.Groups.{none, instant_in, instants_in, AreKept}
use Rattle.afdx_earliest.proofs.Firsts.{length-instants_in, instant_read, late, early}

-- ---- what is kept

pub kept_fresh : (places : ℕ) → places ≤ 24 → AreKept places (replicate 24 none)
kept_fresh places few = record {
  long = refl;
  few = few;
  no_place = λ j past within. get_or-replicate 24 j none 0 within;
  no_instant = λ j within is_late. get_or-replicate 24 j none 0 within;
}

pub kept_set : (places : ℕ) (numbers : List ℕ) → AreKept places numbers → (place number : ℕ) → place < places → (stamp_end ≤ number → number ≡ none) → AreKept places (set numbers place number)
kept_set places numbers kept place number inside no_instant = record {
  long = length-set numbers place number ∙ kept.long;
  few = kept.few;
  no_place = λ j past within. get_or-set_other numbers place j number 0 (omega (arith, past, inside)) ∙ kept.no_place j past within;
  no_instant = λ j within is_late. elim (cases_eq j place) [
    | inl same ↦
        let here : get_or (set numbers place number) j 0 ≡ number =
        ap (λ i. get_or (set numbers place number) i 0) same ∙ get_or-set_same numbers place number 0 (let n = kept.long in omega (arith, n, within, same)) in
        here ∙ no_instant (omega (arith, here, is_late))
    | inr other ↦
        let there = get_or-set_other numbers place j number 0 other in
        there ∙ kept.no_instant j within (omega (arith, there, is_late))
  ];
}

-- ---- the marks

-- an instant is before another if its number is not greater than the last one before that
before_is : (instant number : ℕ) (last : ℤ) → last ≡ pos (min instant none) -ℤ pos 1 → (stamp_end ≤ number → number ≡ none)
    → cond (is_before instant (instant_in number)) 1 0 + cond (lt_z last (pos number)) 1 0 ≡ 1
before_is instant number last same no_instant = elim (cases_lt number stamp_end) [
  | inl is_early ↦ elim (cases_lt number instant) [
    | inl lt ↦ let no : lt_z last (pos number) ≡ false = grind (arith, ints, same, lt, is_early) in
        rw (ap (is_before instant) (early number is_early), lt-ltb number instant lt, no) refl
    | inr le ↦ let yes : lt_z last (pos number) ≡ true = grind (arith, ints, same, le, is_early) in
        rw (ap (is_before instant) (early number is_early), le-ltb number instant le, yes) refl
  ]
  | inr is_late ↦ let at = no_instant is_late in let yes : lt_z last (pos number) ≡ true = grind (arith, ints, same, at) in
      rw (ap (is_before instant) (late number is_late), yes) refl
]

-- three marks of eight numbers each, one after the other
pub joined : (low middle high j : ℕ) → low < 256 → middle < 256 → j < 24
    → bit_at ((high * 2 ^ 8 + middle) * 2 ^ 8 + low) j ≡ cond (ltb j 8) (bit_at low j) (cond (ltb j 16) (bit_at middle (j - 8)) (bit_at high (j - 16)))
joined low middle high j small small_too few = elim (cases_lt j 8) [
  | inl lt ↦ bit_at_cat_low (high * 2 ^ 8 + middle) 8 low j lt ∙ rw (lt-ltb j 8 lt) refl
  | inr ge ↦ bit_at_cat_high (high * 2 ^ 8 + middle) 8 low j small ge ∙ elim (cases_lt j 16) [
    | inl lt ↦ bit_at_cat_low high 8 middle (j - 8) (omega (arith, lt)) ∙ rw (le-ltb j 8 ge, lt-ltb j 16 lt) refl
    | inr past ↦ bit_at_cat_high high 8 middle (j - 8) small_too (omega (arith, past)) ∙ rw (le-ltb j 8 ge, le-ltb j 16 past) (ap (bit_at high) (omega arith))
  ]
]

-- an instant is kept at each place, and none past the last one
read_all : (places : ℕ) (numbers : List ℕ) → AreKept places numbers → (j : ℕ) → j < 24 → instant_at (instants_in places numbers) j ≡ instant_in (get_or numbers j 0)
read_all places numbers kept j within = elim (cases_lt j places) [
  | inl inside ↦ instant_read places numbers j kept.long kept.few inside
  | inr past ↦
      let number = kept.no_place j past within in
      get_or_past (instants_in places numbers) j None (let n = length-instants_in places numbers kept.long kept.few in omega (arith, n, past))
      ∙ sym (late (get_or numbers j 0) (omega (arith, number)))
]

-- the marks of 24 places that are not among those of three times eight numbers
abbrev pub all_but : ℕ → ℕ → ℕ → ℕ
all_but low middle high = bit_and (4294967295 - (high * 65536 % 4294967296 + middle * 256 % 4294967296 + low)) 16777215

module _ (instant places : ℕ) (numbers : List ℕ) (kept : AreKept places numbers) (last : ℤ) (same : last ≡ pos (min instant none) -ℤ pos 1)
    (low middle high : ℕ) (small : low < 256) (small_too : middle < 256) (small_three : high < 256)
    (at_low : (j : ℕ) → bit_at low j ≡ cond (ltb j 8 && lt_z last (pos (get_or numbers (0 + j) 0))) 1 0)
    (at_middle : (j : ℕ) → bit_at middle j ≡ cond (ltb j 8 && lt_z last (pos (get_or numbers (8 + j) 0))) 1 0)
    (at_high : (j : ℕ) → bit_at high j ≡ cond (ltb j 8 && lt_z last (pos (get_or numbers (16 + j) 0))) 1 0) where
  abbrev later : ℕ
  later = high * 65536 % 4294967296 + middle * 256 % 4294967296 + low

  later_is : later ≡ (high * 2 ^ 8 + middle) * 2 ^ 8 + low
  later_is = omega (arith, small_too, small_three)

  later_bit : (j : ℕ) → j < 24 → bit_at later j ≡ cond (lt_z last (pos (get_or numbers j 0))) 1 0
  later_bit j few = ap (λ m. bit_at m j) later_is ∙ joined low middle high j small small_too few ∙ elim (cases_lt j 8) [
    | inl lt ↦ rw (lt-ltb j 8 lt) (at_low j ∙ rw (lt-ltb j 8 lt) (ap (λ i. cond (lt_z last (pos (get_or numbers i 0))) 1 0) (omega arith)))
    | inr ge ↦ elim (cases_lt j 16) [
      | inl lt ↦ rw (le-ltb j 8 ge, lt-ltb j 16 lt)
          (at_middle (j - 8) ∙ rw (lt-ltb (j - 8) 8 (omega (arith, lt))) (ap (λ i. cond (lt_z last (pos (get_or numbers i 0))) 1 0) (omega (arith, ge))))
      | inr past ↦ rw (le-ltb j 8 ge, le-ltb j 16 past)
          (at_high (j - 16) ∙ rw (lt-ltb (j - 16) 8 (omega (arith, few, past))) (ap (λ i. cond (lt_z last (pos (get_or numbers i 0))) 1 0) (omega (arith, past))))
    ]
  ]

  -- where all that are not later are marked, the instants before are
  pub marked_all : AreMarked instant (instants_in places numbers) (all_but low middle high)
  marked_all place = bit_at_and (4294967295 - later) 16777215 place ∙ elim (cases_lt place 24) [
    | inl within ↦
        let here = bit_at_not w32 later place (omega (arith, later_is, small, small_too, small_three)) (omega (arith, within)) in
        let bit = later_bit place within in
        let one : bit_at 16777215 place ≡ 1 = bit_at_ones 24 place within in
        let is = before_is instant (get_or numbers place 0) last same (kept.no_instant place within) in
        let sum : min (bit_at (4294967295 - later) place) (bit_at 16777215 place) ≡ cond (is_before instant (instant_in (get_or numbers place 0))) 1 0 = omega (arith, here, bit, one, is) in
        sum ∙ sym (ap (λ i. cond (is_before instant i) 1 0) (read_all places numbers kept place within))
    | inr past ↦
        let zero_here : bit_at 16777215 place ≡ 0 = bit_at_ones_above 24 place past in
        let empty : instant_at (instants_in places numbers) place ≡ None =
        get_or_past (instants_in places numbers) place None (let few = kept.few in let n = length-instants_in places numbers kept.long kept.few in omega (arith, n, past, few)) in
        let none_here : min (bit_at (4294967295 - later) place) (bit_at 16777215 place) ≡ 0 = omega (arith, zero_here) in
        none_here ∙ sym (ap (λ i. cond (is_before instant i) 1 0) empty)
  ]

-- ---- marks of eight lanes at once

top_cond : (t : Bool) → top 63 (cond t (2 ^ 64 - 1) 0) ≡ t
top_cond true = refl
top_cond false = refl

-- a lane is all ones where its number is greater
abbrev pub ones_if_less : ℕ → ℕ → ℕ
ones_if_less a b = cond (lt_z (to_z w64 a) (to_z w64 b)) (2 ^ 64 - 1) 0

pub lane_greater : (last : ℤ) (x : ℕ) → SFits w64 last → x < 2 ^ 63 → top 63 (ones_if_less (of_z w64 last) x) ≡ lt_z last (pos x)
lane_greater last x fits small = top_cond (lt_z (to_z w64 (of_z w64 last)) (to_z w64 x)) ∙ ap₂ lt_z (to_z-of_z w64 last fits) (to_z_pos w64 x small)

module _ (f : ℕ → ℕ → ℕ) (h : ℕ → ℕ) (y : ℕ) (xs : List ℕ) (n : ℕ) (long : length xs ≡ n) (few : n ≤ 64) where
  abbrev passes : List Bool
  passes = map (λ x. top 63 (f y (h x))) xs

  lanes : mask_l (map (top 63) (zip2 f (replicate n y) (map h xs))) % 2 ^ 64 ≡ mask_l passes
  lanes =
      let at = zip2_splat_left f y n (map h xs) (length-map xs h ∙ long) ∙ map-map (λ x. f y x) h xs in
      ap (λ zs. mask_l (map (top 63) zs) % 2 ^ 64) at
      ∙ ap (λ ms. mask_l ms % 2 ^ 64) (map-map (top 63) (λ x. f y (h x)) xs)
      ∙ mask_l-mod passes 64 (let e = length-map xs (λ x. top 63 (f y (h x))) in omega (arith, e, long, few))

  pub lanes_small : mask_l (map (top 63) (zip2 f (replicate n y) (map h xs))) % 2 ^ 64 < 2 ^ n
  lanes_small = subst (λ m. m < 2 ^ n) (sym lanes) (subst (λ k. mask_l passes < 2 ^ k) (length-map xs (λ x. top 63 (f y (h x))) ∙ long) (mask_l-lt passes))

  pub lane_bit : (j : ℕ) → bit_at (mask_l (map (top 63) (zip2 f (replicate n y) (map h xs))) % 2 ^ 64) j ≡ cond (ltb j n && top 63 (f y (h (get_or xs j 0)))) 1 0
  lane_bit j = ap (λ m. bit_at m j) lanes ∙ bit_mask_l passes j ∙ elim (cases_lt j n) [
    | inl within ↦ ap (λ b. cond b 1 0) (get_or-map (λ x. top 63 (f y (h x))) xs j 0 false (omega (arith, within, long))
        ∙ sym (ap (λ b. b && top 63 (f y (h (get_or xs j 0)))) (lt-ltb j n within)))
    | inr past ↦ ap (λ b. cond b 1 0) (get_or_past passes j false (let e = length-map xs (λ x. top 63 (f y (h x))) in omega (arith, e, long, past))
        ∙ sym (ap (λ b. b && top 63 (f y (h (get_or xs j 0)))) (le-ltb j n past)))
  ]

-- ---- the first mark taken out

pub taken : (marks : ℕ) → marks ≢ 0 → marks < 2 ^ 32 → IsTakenAt marks (bit_and marks (bit_not w32 (1 * 2 ^ trailing_zeros w32 marks % 2 ^ 32))) (trailing_zeros w32 marks)
taken marks some fits = record {
  marked = lowest.1;
  first = lowest.2;
  gone = bit_at_clear_same w32 marks place lowest.0;
  others = others;
  fewer = subst (λ x. bit_and marks (2 ^ 32 - 1 - x) < marks) (sym one) (let e = and_comm marks (2 ^ 32 - 1 - 2 ^ place) in let p = pow_pos place in omega (arith, parts, there, e, p));
} where
  place : ℕ
  place = trailing_zeros w32 marks

  lowest : (place < 32) × (bit_at marks place ≡ 1) × ((i : ℕ) → i < place → bit_at marks i ≡ 0)
  lowest = bit_at-trailing_zeros w32 marks (omega (arith, some)) fits

  small : 2 ^ place < 2 ^ 32
  small = let within = lowest.0 in omega (arith, two-pow-succ place, pow_pos place, pow_mono {i = suc place} {j = 32} (omega (arith, within)))

  one : 1 * 2 ^ place % 2 ^ 32 ≡ 2 ^ place
  one = omega (arith, small)

  parts : bit_and (2 ^ 32 - 1 - 2 ^ place) marks + bit_and (2 ^ place) marks ≡ marks
  parts = and-not 32 (2 ^ place) marks small fits

  there : bit_and (2 ^ place) marks ≡ 1 * 2 ^ place
  there = and_comm (2 ^ place) marks ∙ and_pow marks place ∙ ap (λ x. x * 2 ^ place) lowest.1

  others : (j : ℕ) → j ≢ place → bit_at (bit_and marks (bit_not w32 (1 * 2 ^ place % 2 ^ 32))) j ≡ bit_at marks j
  others j apart = elim (cases_lt j 32) [
    | inl within ↦ bit_at_clear_other w32 marks place lowest.0 j within apart
    | inr beyond ↦ let none_here = bit_at_above marks 32 j fits beyond in
        let both = bit_at_and marks (bit_not w32 (1 * 2 ^ place % 2 ^ 32)) j in
        omega (arith, none_here, both)
  ]
