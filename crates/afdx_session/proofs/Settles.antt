-- Lanes are settled, one after the other.
use Rattle.std.proofs.Common.{◌≡◌, ℕ, zero, suc, ◌+◌, ◌<◌, ◌≤◌, List, [], ◌∷◌, ◌++◌, length, take, set, slice_get, Some, refl, ap, sym, ◌∙◌, arith, subst}
use Rattle.std.specs.declared.vec.Vec.{Vec}
use Rattle.std.specs.Vec.{with_items}
use Rattle.std.proofs.lemmas.List.{with_items_is}
use Rattle.std.proofs.lemmas.Option.{same_Some}
use Rattle.std.proofs.Math.Numerals.{suc-eq-add-one}
use Rattle.afdx_table.specs.declared.rows.PortRow.{PortRow}
use Rattle.afdx_session.specs.declared.lane.Lane.{Lane}
use Rattle.afdx_session.specs.Inner.View.{IsSettledLane, AreSettledLanes, IsFreshLane, AreFreshLanes}

-- what a loop over a list's elements leaves is written back
pub back_items : {X Z : Type 0} (v : Vec X Z) (ws : List X) → length ws ≡ length v.items → (with_items v ws).items ≡ ws
back_items v ws same = with_items_is v ws (same ∙ sym v.ok.0)

-- those before a place are settled, the others as they were
abbrev pub SettledUpTo : {Z : Type 0} → ℕ → List (Lane Z) → List (Lane Z) → Type 0
SettledUpTo n [] [] = Unit {0}
SettledUpTo n [] (m ∷ new) = ⊥
SettledUpTo n (l ∷ old) [] = ⊥
SettledUpTo zero (l ∷ old) (m ∷ new) = (m ≡ l) × SettledUpTo zero old new
SettledUpTo (suc n) (l ∷ old) (m ∷ new) = IsSettledLane l m × SettledUpTo n old new

pub settled_none : {Z : Type 0} (lanes : List (Lane Z)) → SettledUpTo 0 lanes lanes
settled_none [] = tt
settled_none (l ∷ lanes) = (refl, settled_none lanes)

settled_suc : {Z : Type 0} (n : ℕ) (old new : List (Lane Z)) (l m : Lane Z) → slice_get new n ≡ Some l → IsSettledLane l m → SettledUpTo n old new → SettledUpTo (suc n) old (set new n m)
settled_suc n [] [] l m at settled was = tt
settled_suc n [] (k ∷ new) l m at settled was = absurd was
settled_suc n (k ∷ old) [] l m at settled was = absurd was
settled_suc {Z = Z} zero (k ∷ old) (i ∷ new) l m at settled was = (subst (λ (x : Lane Z). IsSettledLane x m) (sym (same_Some i l at) ∙ was.0) settled, was.1)
settled_suc (suc n) (k ∷ old) (i ∷ new) l m at settled was = (was.0, settled_suc n old new l m at settled was.1)

pub settled_more : {Z : Type 0} (n : ℕ) (old new : List (Lane Z)) (l m : Lane Z) → slice_get new n ≡ Some l → IsSettledLane l m → SettledUpTo n old new → SettledUpTo (n + 1) old (set new n m)
settled_more n old new l m at settled was = subst (λ k. SettledUpTo k old (set new n m)) (suc-eq-add-one n) (settled_suc n old new l m at settled was)

pub settled_all : {Z : Type 0} (n : ℕ) (old new : List (Lane Z)) → length new ≤ n → SettledUpTo n old new → AreSettledLanes old new
settled_all n [] [] le was = tt
settled_all n [] (m ∷ new) le was = absurd was
settled_all n (l ∷ old) [] le was = absurd was
settled_all zero (l ∷ old) (m ∷ new) le was = absurd (omega (arith, le))
settled_all (suc n) (l ∷ old) (m ∷ new) le was = (was.0, settled_all n old new (omega (arith, le)) was.1)

-- ---- fresh ones

fresh_suc : {Z : Type 0} (n : ℕ) (ports : List PortRow) (lanes : List (Lane Z)) (p : PortRow) (l : Lane Z) → n < length ports → slice_get ports n ≡ Some p → AreFreshLanes (take n ports) lanes
    → IsFreshLane p.id l → AreFreshLanes (take (suc n) ports) (lanes ++ l ∷ [])
fresh_suc n [] lanes p l lt at was fresh = absurd (omega (arith, lt))
fresh_suc {Z = Z} zero (q ∷ ports) [] p l lt at was fresh = (subst (λ (x : PortRow). IsFreshLane x.id l) (sym (same_Some q p at)) fresh, tt)
fresh_suc zero (q ∷ ports) (m ∷ lanes) p l lt at was fresh = absurd was
fresh_suc (suc n) (q ∷ ports) [] p l lt at was fresh = absurd was
fresh_suc (suc n) (q ∷ ports) (m ∷ lanes) p l lt at was fresh = (was.0, fresh_suc n ports lanes p l (omega (arith, lt)) at was.1 fresh)

pub fresh_more : {Z : Type 0} (n : ℕ) (ports : List PortRow) (lanes : List (Lane Z)) (p : PortRow) (l : Lane Z) → n < length ports → slice_get ports n ≡ Some p → AreFreshLanes (take n ports) lanes
    → IsFreshLane p.id l
    → AreFreshLanes (take (n + 1) ports) (lanes ++ l ∷ [])
fresh_more n ports lanes p l lt at was fresh = subst (λ k. AreFreshLanes (take k ports) (lanes ++ l ∷ [])) (suc-eq-add-one n) (fresh_suc n ports lanes p l lt at was fresh)

take_all : (n : ℕ) (ports : List PortRow) → length ports ≤ n → take n ports ≡ ports
take_all n [] le = nothing n where
  nothing : (m : ℕ) → take {A = PortRow} m [] ≡ []
  nothing zero = refl
  nothing (suc m) = refl
take_all zero (p ∷ ports) le = absurd (omega (arith, le))
take_all (suc n) (p ∷ ports) le = ap (λ ps. p ∷ ps) (take_all n ports (omega (arith, le)))

pub fresh_all : {Z : Type 0} (n : ℕ) (ports : List PortRow) (lanes : List (Lane Z)) → length ports ≤ n → AreFreshLanes (take n ports) lanes → AreFreshLanes ports lanes
fresh_all n ports lanes le was = subst (λ ps. AreFreshLanes ps lanes) (take_all n ports le) was
