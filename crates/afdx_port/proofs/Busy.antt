-- Arrivals within a curve keep the work within it.
use Rattle.std.proofs.Common.{◌≡◌, ℕ, ◌+◌, ◌-◌, ◌*◌, ◌<◌, ◌≤◌, List, [], ◌∷◌, ◌++◌, length, refl, ap, sym, ◌∙◌, subst, arith, ⊎_elim, ◌⊎◌, inl, inr, append-nil, append_assoc, length-append}
use Rattle.std.specs.Prelude.{sum_by}
use Rattle.std.proofs.lemmas.Bool.{cases_lt}
use Rattle.std.proofs.lemmas.List.{get_or_append_left, get_or_push}
use Rattle.std.proofs.lemmas.List.Sums.{sum_by_push, sum_by-cons}
use Rattle.std.proofs.Math.Nat.{mul-le-mul_left, mul-le-mul_right}
use Rattle.std.proofs.lemmas.List.Elements.{All-push}
use Rattle.afdx_port.specs.declared.Settings.{Settings}
use Rattle.afdx_port.specs.declared.Item.{Item}
use Rattle.afdx_port.specs.Service.{came, service, before, aged_of}
use Rattle.afdx_port.specs.Inner.Progress.{left}
use Rattle.afdx_port.specs.Inner.Order.{InOrder}
use Rattle.afdx_port.specs.Inner.Work.{item_cost, work, NoneAged, HaveCome, WithinCurve}
use Rattle.afdx_port.proofs.Earlier.{earlier_events}
use Rattle.afdx_port.proofs.Parts.{parts}
use Rattle.afdx_port.proofs.Steps.{aged_of-append}
use Rattle.afdx_port.proofs.Working.{work_falls}
use Rattle.afdx_port.proofs.Bounds.{work_grows}

-- induction on a list from its end
pub from_end : {X : Type 0} (P : List X → Type 0) → P [] → ((xs : List X) (x : X) → P xs → P (xs ++ x ∷ [])) → (xs : List X) → P xs
from_end {X} P none more xs = after [] none xs where
  after : (prefix : List X) → P prefix → (ys : List X) → P (prefix ++ ys)
  after prefix h [] = subst P (sym (append-nil prefix)) h
  after prefix h (y ∷ ys) = subst P (append_assoc prefix (y ∷ []) ys) (after (prefix ++ y ∷ []) (more prefix y h) ys)

pub none_aged_less : (s : Settings) (t u : ℕ) (items : List Item) → t ≤ u → NoneAged s u items → NoneAged s t items
none_aged_less s t u items le none =
    let rest = before u (service s (left s t 0 items).free (left s t 0 items).waiting) in
    prefix_none (aged_of (before t (service s 0 items))) (aged_of rest) (sym (aged_of-append (before t (service s 0 items)) rest) ∙ ap aged_of (sym (parts s t u 0 items le)) ∙ none) where
      prefix_none : {X : Type 0} (xs ys : List X) → xs ++ ys ≡ [] → xs ≡ []
      prefix_none [] ys h = refl
      prefix_none (x ∷ xs) ys h = (cc)

pub in_order_prefix : (s : Settings) (items : List Item) (y : Item) → InOrder s (items ++ y ∷ []) → InOrder s items
in_order_prefix s items y sorted i j d lt within =
    let both = sorted i j d lt (omega (arith, length-append items (y ∷ []))) in
    let one = ap (λ (z : Item). came s z) (get_or_append_left items (y ∷ []) d i (omega arith)) in
    let two = ap (λ (z : Item). came s z) (get_or_append_left items (y ∷ []) d j within) in
    omega (arith, both, one, two)

pub come_prefix : (s : Settings) (items : List Item) (y : Item) → InOrder s (items ++ y ∷ []) → HaveCome s (came s y) items
come_prefix s items y sorted k d within =
    let both = sorted k (length items) d within (omega (arith, length-append items (y ∷ []))) in
    let one = ap (λ (z : Item). came s z) (get_or_append_left items (y ∷ []) d k within) in
    let two = ap (λ (z : Item). came s z) (get_or_push items y d (length items) refl) in
    omega (arith, both, one, two)

pub last_come : (s : Settings) (t : ℕ) (items : List Item) (y : Item) → HaveCome s t (items ++ y ∷ []) → came s y ≤ t
last_come s t items y come =
    let here = come (length items) y (omega (arith, length-append items (y ∷ []))) in
    omega (arith, here, ap (λ (z : Item). came s z) (get_or_push items y y (length items) refl))

pub come_all : (s : Settings) (items : List Item) (y : Item) → InOrder s (items ++ y ∷ []) → HaveCome s (came s y) (items ++ y ∷ [])
come_all s items y sorted = All-push (λ (z : Item). came s z ≤ came s y) items y (come_prefix s items y sorted) (omega arith)

-- the line was busy from the arrival of `start` on, so that the work is what came since then less the time since
record Busy (s : Settings) (t : ℕ) (items : List Item) : Type 0 where
  pre : List Item
  start : Item
  mid : List Item
  parted : items ≡ pre ++ start ∷ mid
  since : came s start ≤ t
  enough : work s t items + (t - (came s start)) ≤ sum_by (item_cost s) (start ∷ mid)

busy : (s : Settings) (items : List Item) → InOrder s items → (t : ℕ) → HaveCome s t items → NoneAged s t items → (work s t items ≡ 0) ⊎ Busy s t items
busy s = from_end (λ items. InOrder s items → (t : ℕ) → HaveCome s t items → NoneAged s t items → (work s t items ≡ 0) ⊎ Busy s t items)
    (λ _ t _ _. inl refl)
    (λ items y ih sorted t come none.
    let now = (came s y) in
    let le = last_come s t items y come in
    let none_now = none_aged_less s now t (items ++ y ∷ []) le none in
    let same = earlier_events s now 0 items (y ∷ []) (omega arith, tt) in
    let none_before : NoneAged s now items = sym (ap aged_of same) ∙ none_now in
    let come_now = come_prefix s items y sorted in
    let grows = work_grows s now items y (omega arith) none_before in
    let falls = work_falls s now t (items ++ y ∷ []) le (come_all s items y sorted) none in
    step items y t le grows falls (ih (in_order_prefix s items y sorted) now come_now none_before)) where
      step : (items : List Item) (y : Item) (t : ℕ) → came s y ≤ t → work s (came s y) (items ++ y ∷ []) ≡ work s (came s y) items + item_cost s y → work s t (items ++ y ∷ [])
          ≡ work s (came s y) (items ++ y ∷ []) - (t - (came s y))
          → (work s (came s y) items ≡ 0) ⊎ Busy s (came s y) items → (work s t (items ++ y ∷ []) ≡ 0) ⊎ Busy s t (items ++ y ∷ [])
      step items y t le grows falls before' = ⊎_elim
          (λ (short : work s (came s y) (items ++ y ∷ []) < t - (came s y)). inl (omega (arith, falls, short)))
          (λ (long : t - (came s y) ≤ work s (came s y) (items ++ y ∷ [])). inr (⊎_elim
          (λ (idle : work s (came s y) items ≡ 0).
          record { pre = items; start = y; mid = []; parted = refl; since = le; enough = omega (arith, falls, grows, idle, long, sum_by-cons (item_cost s) y []) })
          (λ (b : Busy s (came s y) items).
          record {
            pre = b.pre;
            start = b.start;
            mid = b.mid ++ y ∷ [];
            parted = ap (λ xs. xs ++ y ∷ []) b.parted
                ∙ append_assoc b.pre (b.start ∷ b.mid) (y ∷ []);
            since = omega (arith, b.since, le);
            enough = omega
                (arith, falls, grows, long, b.enough, b.since, sum_by_push (item_cost s) (b.start ∷ b.mid) y);
          })
          before'))
          (cases_lt (work s (came s y) (items ++ y ∷ [])) (t - (came s y)))

pub work_within : (s : Settings) (scale most rate t : ℕ) (items : List Item) → rate ≤ scale → InOrder s items → HaveCome s t items → NoneAged s t items
    → WithinCurve s scale most rate t items → scale * work s t items ≤ most
work_within s scale most rate t items slow sorted come none curve = ⊎_elim
    (λ (idle : work s t items ≡ 0). rw idle (omega arith))
    (λ (b : Busy s t items). bound scale most rate (work s t items) (t - (came s b.start)) (sum_by (item_cost s) (b.start ∷ b.mid)) slow b.enough (curve b.pre b.mid b.start b.parted))
    (busy s items sorted t come none) where
      bound : (n g r w d c : ℕ) → r ≤ n → w + d ≤ c → n * c ≤ g + r * d → n * w ≤ g
      bound n g r w d c slow enough curve = omega (arith, mul-le-mul_left n enough, mul-le-mul_right d slow, curve)
