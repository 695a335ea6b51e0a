-- High arrivals within a curve keep the high work within it and one low item.
use Rattle.std.proofs.Common.{◌≡◌, ℕ, ◌+◌, ◌-◌, ◌*◌, ◌<◌, ◌≤◌, false, List, [], ◌∷◌, ◌++◌, refl, ap, sym, ◌∙◌, arith, ⊎_elim, ◌⊎◌, inl, inr, append_assoc, length-append, subst}
use Rattle.std.specs.Prelude.{max, sum_by, All}
use Rattle.std.proofs.lemmas.Bool.{cases_lt}
use Rattle.std.proofs.lemmas.List.{get_or_append_left}
use Rattle.std.proofs.lemmas.List.Sums.{sum_by_push, sum_by-cons}
use Rattle.std.proofs.Math.Nat.{mul-le-mul_left, mul-le-mul_right}
use Rattle.afdx_port.specs.declared.Settings.{Settings}
use Rattle.afdx_port.specs.declared.Item.{Item}
use Rattle.afdx_port.specs.Service.{came, aged_of}
use Rattle.afdx_units.specs.Line.{is_high}
use Rattle.afdx_port.specs.Inner.Progress.{LineState, left}
use Rattle.afdx_port.specs.Inner.Order.{InOrder}
use Rattle.afdx_port.specs.Inner.Work.{item_cost, high_cost, high_work, NoneAged, HaveCome, HighWithinCurve}
use Rattle.afdx_port.proofs.Earlier.{earlier_events}
use Rattle.afdx_port.proofs.Parts.{left-append}
use Rattle.afdx_port.proofs.Bounds.{high_sum, high_work_falls, adds}
use Rattle.afdx_port.proofs.Busy.{from_end, none_aged_less, in_order_prefix, come_prefix, come_all, last_come}

high_is : (s : Settings) (t : ℕ) (items : List Item) → high_work s t items ≡ ((left s t 0 items).free - t) + sum_by (high_cost s) (left s t 0 items).waiting
high_is s t items = ap (λ n. ((left s t 0 items).free - t) + n) (high_sum s (left s t 0 items).waiting)

high_grows : (s : Settings) (t : ℕ) (items : List Item) (x : Item) → t ≤ came s x → high_work s t (items ++ x ∷ []) ≡ high_work s t items + high_cost s x
high_grows s t items x le =
    let q = left s t 0 items in
    high_is s t (items ++ x ∷ [])
    ∙ ap (λ (r : LineState). (r.free - t) + sum_by (high_cost s) r.waiting) (left-append s t 0 items (x ∷ []) (le, tt))
    ∙ adds (q.free - t) (sum_by (high_cost s) q.waiting) (high_cost s x) _ (sum_by_push (high_cost s) q.waiting x)
    ∙ ap (λ n. n + high_cost s x) (sym (high_is s t items))

record HighBusy (s : Settings) (low t : ℕ) (items : List Item) : Type 0 where
  pre : List Item
  start : Item
  mid : List Item
  parted : items ≡ pre ++ start ∷ mid
  since : came s start ≤ t
  enough : high_work s t items + (t - (came s start)) ≤ low + sum_by (high_cost s) (start ∷ mid)

all_prefix : (P : Item → Type 0) (items : List Item) (y : Item) → All P (items ++ y ∷ []) → All P items
all_prefix P items y h k d within = subst P (get_or_append_left items (y ∷ []) d k within) (h k d (omega (arith, length-append items (y ∷ []))))

high_busy : (s : Settings) (low : ℕ) (items : List Item) → InOrder s items → All (λ item. is_high item.priority ≡ false → item_cost s item ≤ low) items → (t : ℕ) → HaveCome s t items
    → NoneAged s t items → (high_work s t items ≤ low) ⊎ HighBusy s low t items
high_busy s low = from_end (λ items. InOrder s items → All (λ item. is_high item.priority ≡ false → item_cost s item ≤ low) items → (t : ℕ) → HaveCome s t items → NoneAged s t items
    → (high_work s t items ≤ low) ⊎ HighBusy s low t items)
    (λ _ _ t _ _. inl (omega arith))
    (λ items y ih sorted small t come none.
    let now = (came s y) in
    let le = last_come s t items y come in
    let none_now = none_aged_less s now t (items ++ y ∷ []) le none in
    let none_before : NoneAged s now items = sym (ap aged_of (earlier_events s now 0 items (y ∷ []) (omega arith, tt))) ∙ none_now in
    let grows = high_grows s now items y (omega arith) in
    let falls = high_work_falls s now t low (items ++ y ∷ []) le (come_all s items y sorted) none small in
    step items y t le grows falls (ih (in_order_prefix s items y sorted) (all_prefix (λ item. is_high item.priority ≡ false → item_cost s item ≤ low) items y small) now (come_prefix s items y sorted)
    none_before)) where
      step : (items : List Item) (y : Item) (t : ℕ) → came s y ≤ t → high_work s (came s y) (items ++ y ∷ []) ≡ high_work s (came s y) items + high_cost s y → high_work s t (items ++ y ∷ [])
          ≤ max (high_work s (came s y) (items ++ y ∷ []) - (t - (came s y))) low
          → (high_work s (came s y) items ≤ low) ⊎ HighBusy s low (came s y) items → (high_work s t (items ++ y ∷ []) ≤ low) ⊎ HighBusy s low t (items ++ y ∷ [])
      step items y t le grows falls before' = ⊎_elim
          (λ (short : high_work s (came s y) (items ++ y ∷ []) < (t - (came s y)) + low + 1). inl (omega (arith, falls, short)))
          (λ (long : (t - (came s y)) + low + 1 ≤ high_work s (came s y) (items ++ y ∷ [])). inr (⊎_elim
          (λ (idle : high_work s (came s y) items ≤ low).
          record { pre = items; start = y; mid = []; parted = refl; since = le; enough = omega (arith, falls, grows, idle, long, sum_by-cons (high_cost s) y []) })
          (λ (b : HighBusy s low (came s y) items).
          record {
            pre = b.pre;
            start = b.start;
            mid = b.mid ++ y ∷ [];
            parted = ap (λ xs. xs ++ y ∷ []) b.parted
                ∙ append_assoc b.pre (b.start ∷ b.mid) (y ∷ []);
            since = omega (arith, b.since, le);
            enough = omega
                (arith, falls, grows, long, b.enough, b.since, sum_by_push (high_cost s) (b.start ∷ b.mid) y);
          })
          before'))
          (cases_lt (high_work s (came s y) (items ++ y ∷ [])) ((t - (came s y)) + low + 1))

pub high_work_within : (s : Settings) (scale most rate low t : ℕ) (items : List Item) → rate ≤ scale → InOrder s items → HaveCome s t items → NoneAged s t items
    → All (λ item. is_high item.priority ≡ false → item_cost s item ≤ low) items
    → HighWithinCurve s scale most rate t items → scale * high_work s t items ≤ most + scale * low
high_work_within s scale most rate low t items slow sorted come none small curve = ⊎_elim
    (λ (idle : high_work s t items ≤ low). omega (arith, mul-le-mul_left scale idle))
    (λ (b : HighBusy s low t items). bound scale most rate low (high_work s t items) (t - (came s b.start)) (sum_by (high_cost s) (b.start ∷ b.mid)) slow b.enough (curve b.pre b.mid b.start b.parted))
    (high_busy s low items sorted small t come none) where
      bound : (n g r l w d c : ℕ) → r ≤ n → w + d ≤ l + c → n * c ≤ g + r * d → n * w ≤ g + n * l
      bound n g r l w d c slow enough curve = omega (arith, mul-le-mul_left n enough, mul-le-mul_right d slow, curve)
