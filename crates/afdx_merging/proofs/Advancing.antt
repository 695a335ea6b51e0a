-- A capture is read on, or is not for a fault of it.
use Rattle.std.proofs.Common.{◌≡◌, ℕ, ◌+◌, ◌<◌, List, length, length-set, set, slice_get, Option, Some, inl, inr, refl, sym, ◌∙◌, arith, subst}
use Rattle.afdx_pairing.specs.Events.{Numbered}
use Rattle.afdx_merging.specs.declared.lane.Lane.{Lane}
use Rattle.afdx_merging.specs.declared.lane.LaneFault.{LaneFault}
use Rattle.afdx_merging.specs.Inner.Lanes.{IsReadBy, IsStopped}
use Rattle.afdx_merging.specs.Inner.Merging.{HaveNoFault, AreReadBy, AreStoppedAt}
use Rattle.afdx_merging.proofs.Lists.{get-set}

-- the lanes before it are as they were
pub sound_before : {Z : Type 0} (lanes : List (Lane Z)) (place : ℕ) (later : Lane Z) → HaveNoFault lanes (place + 1) → HaveNoFault (set lanes place later) place
sound_before lanes place later sound = λ k l lt at. elim (get-set lanes place k later l at) [
  | inl same ↦ let here = same.0 in absurd (omega (arith, lt, here))
  | inr other ↦ sound k l (omega (arith, lt)) other.1
]

pub stopped_at : {R Z : Type 0} (remaining : R → Option (List ℕ)) (first readers : List R) (lanes : List (Lane Z)) (place : ℕ) (lane later : Lane Z) (reader after : R) (why : LaneFault)
    → place < length readers → length first ≡ length readers → slice_get lanes place ≡ Some lane → slice_get readers place ≡ Some reader → AreReadBy remaining first readers lanes (place + 1)
    → ((f : R) (given : List Numbered) → IsReadBy remaining f reader lane given → IsStopped remaining f after why)
    → AreStoppedAt remaining first (set readers place after) (set lanes place later) place why
stopped_at {R} {Z} remaining first readers lanes place lane later reader after why within long is_lane is_reader read stopped = record {
  long = long ∙ sym (length-set readers place after);
  within = subst (λ n. place < n) (sym (length-set readers place after)) within;
  here = here;
  before = before;
} where
  here : (f r : R) → slice_get first place ≡ Some f → slice_get (set readers place after) place ≡ Some r → IsStopped remaining f r why
  here f r is_first is_now = elim (get-set readers place place after r is_now) [
    | inl same ↦
        let own = read place f reader lane (omega arith) is_first is_reader is_lane in
        subst (λ (x : R). IsStopped remaining f x why) (sym same.1) (stopped f own.0 own.1)
    | inr other ↦ absurd (other.0 refl)
  ]

  before : (k : ℕ) (f r : R) (l : Lane Z) → k < place → slice_get first k ≡ Some f → slice_get (set readers place after) k ≡ Some r → slice_get (set lanes place later) k ≡ Some l
      → (given : List Numbered) × IsReadBy remaining f r l given
  before k f r l lt is_first is_now at = elim (get-set lanes place k later l at) [
    | inl same ↦ let here = same.0 in absurd (omega (arith, lt, here))
    | inr other ↦ elim (get-set readers place k after r is_now) [
      | inl same ↦ let here = same.0 in absurd (omega (arith, lt, here))
      | inr also ↦ read k f r l (omega (arith, lt)) is_first also.1 other.1
    ]
  ]
