-- The first of the records that are at hand.
use Rattle.std.proofs.Common.{◌≡◌, ℕ, zero, suc, ◌+◌, ◌<◌, ◌≤◌, nat_lt, Bool, true, false, cond, List, [], ◌∷◌, length, get_or, drop, set, slice_get, Option, Some, None}
use Rattle.std.proofs.Common.{inl, inr, refl, ap, sym, ◌∙◌, arith, subst}
use Rattle.std.specs.Option.{option_map}
use Rattle.std.proofs.Math.Numerals.{suc-eq-add-one}
use Rattle.std.proofs.Math.Seq.{drop-cons}
use Rattle.std.proofs.lemmas.Bool.{cases_lt, lt-ltb, ltb-true}
use Rattle.std.proofs.lemmas.Option.{same_Some}
use Rattle.afdx_units.specs.Time.{earlier_of}
use Rattle.afdx_earliest.specs.Instants.{instant_at, IsFirstIn}
use Rattle.afdx_pairing.specs.Events.{Numbered}
use Rattle.afdx_merging.specs.declared.lane.Lane.{Lane}
use Rattle.afdx_merging.specs.Merge.{due_at}
use Rattle.afdx_merging.specs.Inner.Merging.{due_of, dues_of, sooner, least_of, stamp_of}

-- the instant at the place of a lane
pub instant_of : {Z : Type 0} (lanes : List (Lane Z)) (k : ℕ) (l : Lane Z) → slice_get lanes k ≡ Some l → instant_at (dues_of lanes) k ≡ due_of l
instant_of [] k l at = absurd cc
instant_of {Z} (x ∷ lanes) zero l at = ap (λ (y : Lane Z). due_of y) (same_Some x l at)
instant_of (x ∷ lanes) (suc k) l at = instant_of lanes k l at

no_instant : {t : ℕ} {o : Option ℕ} → o ≡ None → o ≡ Some t → ⊥
no_instant none some = absurd (let never = sym none ∙ some in cc)

-- with one more place
pub first_more : (instants : List (Option ℕ)) (n : ℕ) (found : Option (ℕ × ℕ)) (due : Option ℕ) → IsFirstIn instants n found → instant_at instants n ≡ due
    → IsFirstIn instants (n + 1) (sooner found n due)
first_more instants n None None was here = λ j lt. elim (cases_lt j n) [
  | inl before ↦ was j before
  | inr ge ↦ let same : j ≡ n = omega (arith, lt, ge) in ap (instant_at instants) same ∙ here
]
first_more instants n None (Some due) was here = record {
  within = omega arith;
  here = here;
  sooner = λ j u lt at. elim (cases_lt j n) [
    | inl before ↦ absurd (no_instant (was j before) at)
    | inr ge ↦
        let same : n ≡ j = omega (arith, lt, ge) in
        let equal : due ≡ u = same_Some due u (sym here ∙ ap (instant_at instants) same ∙ at) in
        omega (arith, equal)
  ];
  former = λ j u lt at. absurd (no_instant (was j lt) at);
}
first_more instants n (Some found) None was here =
    let within = was.within in
    record {
      within = omega (arith, within);
      here = was.here;
      sooner = λ j u lt at. elim (cases_lt j n) [
        | inl before ↦ was.sooner j u before at
        | inr ge ↦ let same : n ≡ j = omega (arith, lt, ge) in absurd (no_instant (sym (ap (instant_at instants) same) ∙ here) at)
      ];
      former = was.former;
    }
first_more instants n (Some found) (Some due) was here = elim (cases_lt due found.1) [
  | inl lt ↦ subst (IsFirstIn instants (n + 1)) (sym (ap (λ (b : Bool). cond b (Some (n, due)) (Some found)) (lt-ltb due found.1 lt))) (new lt)
  | inr ge ↦ subst (IsFirstIn instants (n + 1)) (sym (ap (λ (b : Bool). cond b (Some (n, due)) (Some found)) (is_not (nat_lt due found.1) (λ is. ltb-true due found.1 is) ge))) (old ge)
] where
  is_not : (b : Bool) → (b ≡ true → due < found.1) → found.1 ≤ due → b ≡ false
  is_not true lt ge = let never = lt refl in absurd (omega (arith, never, ge))
  is_not false lt ge = refl

  new : due < found.1 → IsFirstIn instants (n + 1) (Some (n, due))
  new less = record {
    within = omega arith;
    here = here;
    sooner = λ j u lt at. elim (cases_lt j n) [
      | inl before ↦ let le = was.sooner j u before at in omega (arith, less, le)
      | inr ge ↦
          let same : n ≡ j = omega (arith, lt, ge) in
          let equal : due ≡ u = same_Some due u (sym here ∙ ap (instant_at instants) same ∙ at) in
          omega (arith, equal)
    ];
    former = λ j u lt at. let le = was.sooner j u lt at in omega (arith, less, le);
  }

  old : found.1 ≤ due → IsFirstIn instants (n + 1) (Some found)
  old le =
      let within = was.within in
      record {
        within = omega (arith, within);
        here = was.here;
        sooner = λ j u lt at. elim (cases_lt j n) [
          | inl before ↦ was.sooner j u before at
          | inr ge ↦
              let same : n ≡ j = omega (arith, lt, ge) in
              let equal : due ≡ u = same_Some due u (sym here ∙ ap (instant_at instants) same ∙ at) in
              omega (arith, le, equal)
        ];
        former = was.former;
      }

-- ---- the least

pub earlier_joins : (a b c : Option ℕ) → earlier_of (earlier_of a b) c ≡ earlier_of a (earlier_of b c)
earlier_joins None b c = refl
earlier_joins (Some a) None c = refl
earlier_joins (Some a) (Some b) None = refl
earlier_joins (Some a) (Some b) (Some c) = ap Some (omega arith)

pub earlier_none : (a : Option ℕ) → earlier_of a None ≡ a
earlier_none None = refl
earlier_none (Some a) = refl

none_left : {Z : Type 0} (lanes : List (Lane Z)) (k : ℕ) → length lanes ≤ k → drop k lanes ≡ []
none_left [] k le = none k where
  none : {X : Type 0} (k : ℕ) → drop {A = X} k [] ≡ []
  none zero = refl
  none (suc k) = refl
none_left (l ∷ lanes) zero le = absurd (omega (arith, le))
none_left (l ∷ lanes) (suc k) le = none_left lanes k (omega (arith, le))

next_lane : {Z : Type 0} (lanes : List (Lane Z)) (k : ℕ) (l : Lane Z) → k < length lanes → l ≡ get_or lanes k l → drop k lanes ≡ l ∷ drop (k + 1) lanes
next_lane lanes k l lt is = drop-cons lanes k l lt ∙ ap (λ x. x ∷ drop (suc k) lanes) (sym is) ∙ ap (λ n. l ∷ drop n lanes) (suc-eq-add-one k)

pub least_more : {Z : Type 0} (lanes : List (Lane Z)) (k : ℕ) (l : Lane Z) (old new : Option ℕ) → k < length lanes → l ≡ get_or lanes k l → new ≡ earlier_of old (stamp_of l)
    → earlier_of old (least_of (drop k lanes)) ≡ least_of lanes → earlier_of new (least_of (drop (k + 1) lanes)) ≡ least_of lanes
least_more {Z} lanes k l old new lt is same was =
    ap (λ (m : Option ℕ). earlier_of m (least_of (drop (k + 1) lanes))) same ∙ earlier_joins old (stamp_of l) (least_of (drop (k + 1) lanes))
    ∙ ap (λ (ls : List (Lane Z)). earlier_of old (least_of ls)) (sym (next_lane lanes k l lt is)) ∙ was

pub least_all : {Z : Type 0} (lanes : List (Lane Z)) (k : ℕ) (least : Option ℕ) → length lanes ≤ k → earlier_of least (least_of (drop k lanes)) ≡ least_of lanes → least ≡ least_of lanes
least_all {Z} lanes k least le was = sym (earlier_none least) ∙ ap (λ (ls : List (Lane Z)). earlier_of least (least_of ls)) (sym (none_left lanes k le)) ∙ was

-- ---- the least, where the next record is taken

earlier_swaps : (a b c : Option ℕ) → earlier_of a (earlier_of b c) ≡ earlier_of b (earlier_of a c)
earlier_swaps None b c = refl
earlier_swaps (Some a) None None = refl
earlier_swaps (Some a) None (Some c) = refl
earlier_swaps (Some a) (Some b) None = ap Some (omega arith)
earlier_swaps (Some a) (Some b) (Some c) = ap Some (omega arith)

-- with what is no less it stays
earlier_stays : (a : ℕ) (b c : Option ℕ) → ((n : ℕ) → b ≡ Some n → a ≤ n) → earlier_of (Some a) (earlier_of b c) ≡ earlier_of (Some a) c
earlier_stays a None c le = refl
earlier_stays a (Some b) None le = let it = le b refl in ap Some (omega (arith, it))
earlier_stays a (Some b) (Some c) le = let it = le b refl in ap Some (omega (arith, it))

-- a lane's next record is taken, and what is then at hand is no sooner
pub least_taken : {Z : Type 0} (lanes : List (Lane Z)) (k : ℕ) (was now : Lane Z) (a : ℕ) → slice_get lanes k ≡ Some was → stamp_of was ≡ Some a → ((n : ℕ) → stamp_of now ≡ Some n → a ≤ n)
    → earlier_of (Some a) (least_of (set lanes k now)) ≡ least_of lanes
least_taken [] k was now a at is le = absurd cc
least_taken {Z} (x ∷ lanes) zero was now a at is le =
    earlier_stays a (stamp_of now) (least_of lanes) le
    ∙ ap (λ (o : Option ℕ). earlier_of o (least_of lanes)) (sym is)
    ∙ ap (λ (l : Lane Z). earlier_of (stamp_of l) (least_of lanes)) (sym (same_Some x was at))
least_taken (x ∷ lanes) (suc k) was now a at is le =
    earlier_swaps (Some a) (stamp_of x) (least_of (set lanes k now))
    ∙ ap (λ (o : Option ℕ). earlier_of (stamp_of x) o) (least_taken lanes k was now a at is le)

no_stamp : {Z : Type 0} (l : Lane Z) → due_of l ≡ None → stamp_of l ≡ None
no_stamp {Z} l none = by l.head none where
  by : (o : Option Numbered) → option_map (λ (n : Numbered). due_at l.clock n.frame.stamp) o ≡ None → option_map (λ (n : Numbered). n.frame.stamp) o ≡ None
  by None is = refl
  by (Some n) is = absurd cc

-- where none is at hand, there is no least one
pub least_none : {Z : Type 0} (lanes : List (Lane Z)) → IsFirstIn (dues_of lanes) (length lanes) None → least_of lanes ≡ None
least_none [] none = refl
least_none {Z} (l ∷ lanes) none =
    ap (λ (o : Option ℕ). earlier_of o (least_of lanes)) (no_stamp l (none 0 (omega arith)))
    ∙ least_none lanes (λ j lt. none (suc j) (omega (arith, lt)))
