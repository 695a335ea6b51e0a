-- Items of one priority leave in the order in which they came.
use Rattle.std.proofs.Common.{◌≡◌, ℕ, zero, suc, ◌<◌, ◌≤◌, Bool, true, false, cond, List, [], ◌∷◌, ◌++◌, length, get_or, take, drop, Some, refl, ap, sym, ◌∙◌, arith, ⊎_elim, add-one}
use Rattle.std.specs.Prelude.{max, filter, map, nat_le, ◌&&◌, remove, All, unwrap_or, position}
use Rattle.std.specs.List.{AllByRecursion}
use Rattle.std.proofs.lemmas.Bool.{cases_Bool, both_ways}
use Rattle.std.proofs.lemmas.Bool.Decides.{nat_tests}
use Rattle.std.proofs.lemmas.List.{take-append-drop, drop_more, length-take, get_or-take, get_or_default}
use Rattle.std.proofs.lemmas.List.Elements.{All-head, All-tail, All-get_or, filter-append}
use Rattle.std.proofs.lemmas.List.Quantifiers.{position-Some, all_pairs_remove}
use Rattle.afdx_units.specs.declared.line.Priority.{Priority}
use Rattle.afdx_port.specs.declared.Settings.{Settings}
use Rattle.afdx_port.specs.declared.Item.{Item}
use Rattle.afdx_port.specs.Service.{came, item_of, free_after, next, others, turn, is_urgent, service}
use Rattle.afdx_units.specs.Line.{is_high}
use Rattle.afdx_port.specs.Inner.Order.{InOrder}
use Rattle.afdx_port.proofs.Turns.{item_of-next, length-others, service-step, turn-lt, position_none}
use Rattle.afdx_port.proofs.Working.{others_all}
use Rattle.afdx_port.proofs.Bounds.{found}

pub filter_none : {X : Type 0} (p : X → Bool) (xs : List X) → All (λ x. p x ≡ false) xs → filter p xs ≡ []
filter_none p [] h = refl
filter_none p (x ∷ xs) h = ap (λ b. cond b (x ∷ filter p xs) (filter p xs)) (All-head (λ x. p x ≡ false) x xs h) ∙ filter_none p xs (All-tail (λ x. p x ≡ false) x xs h)

-- where no item before the place k passes, the one at k is the first that does, if it does
pub filter_place : {X : Type 0} (p : X → Bool) (xs : List X) (k : ℕ) (d : X) → k < length xs → (p (get_or xs k d) ≡ true → filter p (take k xs) ≡ []) → filter p xs
    ≡ cond (p (get_or xs k d)) (get_or xs k d ∷ filter p (remove xs k)) (filter p (remove xs k))
filter_place {X} p xs k d lt first =
    let x = get_or xs k d in
    let parted : filter p xs ≡ filter p (take k xs) ++ cond (p x) (x ∷ filter p (drop (suc k) xs)) (filter p (drop (suc k) xs)) =
    ap (filter p) (sym (take-append-drop k xs)) ∙ filter-append p (take k xs) (drop k xs)
    ∙ ap (λ ys. filter p (take k xs) ++ filter p ys) (drop_more xs k d lt ∙ ap (λ n. x ∷ drop n xs) (add-one k)) in
    let rest : filter p (remove xs k) ≡ filter p (take k xs) ++ filter p (drop (suc k) xs) = filter-append p (take k xs) (drop (suc k) xs) in
    ⊎_elim
    (λ (is : p x ≡ true). rw (is, rest, first is) (parted ∙ rw (is, first is) refl))
    (λ (is : p x ≡ false). rw (is, rest) (parted ∙ rw is refl))
    (cases_Bool (p x))

stamp_le : (s : Settings) (items : List Item) (k i : ℕ) (d e : Item) → InOrder s items → k < i → i < length items → (came s (get_or items k d)) ≤ (came s (get_or items i e))
stamp_le s items k i d e sorted lt in' = omega (arith, sorted k i d lt in', ap (λ (y : Item). came s y) (get_or_default items i d e in'))

also : (b : ℕ) (v w : Bool) (m n : ℕ) → v && nat_le m b ≡ true → n ≤ m → w ≡ v → w && nat_le n b ≡ true
also b v w m n h le e = grind (arith, nat_tests)

contrary : (s : Settings) (b : ℕ) (x y : Item) → is_urgent s b x ≡ true → is_urgent s b y ≡ false → came s y ≤ came s x → y.priority ≡ x.priority → ⊥
contrary s b x y urgent waits le same = both_ways (is_urgent s b y) waits (also b (is_high x.priority) (is_high y.priority) (came s x) (came s y) urgent le (ap is_high same))

-- before the first urgent item, none of its class waits
none_at : (s : Settings) (p : Item → Bool) (priority : Priority) (b : ℕ) (items : List Item) (i : ℕ) (d : Item) → InOrder s items → All (λ item. p item ≡ true → item.priority ≡ priority) items
    → position (is_urgent s b) items ≡ Some i → p (get_or items i d) ≡ true → (k : ℕ) (e : Item) → k < length (take i items) → p (get_or (take i items) k e) ≡ false
none_at s p priority b items i d sorted class at passes k e lt =
    let facts = position-Some (is_urgent s b) items i e at in
    let low : k < i = omega (arith, length-take i items) in
    let within : i < length items = facts.0 in
    let x = get_or items i e in
    let y = get_or items k e in
    let passes' : p x ≡ true = ap p (get_or_default items i e d within) ∙ passes in
    ap p (get_or-take i items k e low) ∙ ⊎_elim
    (λ (yes' : p y ≡ true). absurd (contrary s b x y facts.1 (facts.2 k low) (stamp_le s items k i e e sorted low within)
    (All-get_or (λ item. p item ≡ true → item.priority ≡ priority) items k e (omega arith) class yes'
    ∙ sym (All-get_or (λ item. p item ≡ true → item.priority ≡ priority) items i e within class passes'))))
    (λ (no' : p y ≡ false). no')
    (cases_Bool (p y))

-- before the item whose turn it is, none of its class waits
none_before : (s : Settings) (p : Item → Bool) (priority : Priority) (b : ℕ) (first : Item) (rest : List Item) → InOrder s (first ∷ rest)
    → All (λ item. p item ≡ true → item.priority ≡ priority) (first ∷ rest)
    → p (get_or (first ∷ rest) (turn s b (first ∷ rest)) first) ≡ true → filter p (take (turn s b (first ∷ rest)) (first ∷ rest)) ≡ []
none_before s p priority b first rest sorted class passes = ⊎_elim
    (λ (none : AllByRecursion (λ item. is_urgent s b item ≡ false) (first ∷ rest)). ap (λ o. filter p (take (unwrap_or o 0) (first ∷ rest))) (position_none (is_urgent s b) (first ∷ rest) none))
    (λ (some : (i : ℕ) × (position (is_urgent s b) (first ∷ rest) ≡ Some i)).
    let place : turn s b (first ∷ rest) ≡ some.0 = ap (λ o. unwrap_or o 0) some.1 in
    let passes' : p (get_or (first ∷ rest) some.0 first) ≡ true = sym (ap (λ k. p (get_or (first ∷ rest) k first)) place) ∙ passes in
    ap (λ k. filter p (take k (first ∷ rest))) place ∙ filter_none p (take some.0 (first ∷ rest)) (none_at s p priority b (first ∷ rest) some.0 first sorted class some.1 passes'))
    (found (is_urgent s b) (first ∷ rest))

others_order : (s : Settings) (free : ℕ) (first : Item) (rest : List Item) → InOrder s (first ∷ rest) → InOrder s (others s free first rest)
unfolding others
others_order s free first rest sorted = all_pairs_remove (λ (a : Item) (b : Item). came s a ≤ came s b) (first ∷ rest) (turn s (max free (came s first)) (first ∷ rest))
    (turn-lt s (max free (came s first)) first rest) sorted

pub others_filter : (s : Settings) (p : Item → Bool) (free : ℕ) (first : Item) (rest : List Item)
    → (p (get_or (first ∷ rest) (turn s (max free (came s first)) (first ∷ rest)) first) ≡ true → filter p (take (turn s (max free (came s first)) (first ∷ rest)) (first ∷ rest)) ≡ [])
    → filter p (first ∷ rest) ≡ cond (p (get_or (first ∷ rest) (turn s (max free (came s first)) (first ∷ rest)) first))
    (get_or (first ∷ rest) (turn s (max free (came s first)) (first ∷ rest)) first ∷ filter p (others s free first rest)) (filter p (others s free first rest))
unfolding others
others_filter s p free first rest h = filter_place p (first ∷ rest) (turn s (max free (came s first)) (first ∷ rest)) first (turn-lt s (max free (came s first)) first rest) h

keeps_order_by : (n : ℕ) (s : Settings) (p : Item → Bool) (priority : Priority) (free : ℕ) (items : List Item) → length items ≡ n → InOrder s items
    → All (λ item. p item ≡ true → item.priority ≡ priority) items → filter p (map item_of (service s free items)) ≡ filter p items
keeps_order_by n s p priority free [] is sorted class = refl
keeps_order_by zero s p priority free (first ∷ rest) is sorted class = absurd (omega (arith, is))
keeps_order_by (suc n) s p priority free (first ∷ rest) is sorted class =
    let e = next s free first rest in
    let more = others s free first rest in
    let b = max free (came s first) in
    let x = get_or (first ∷ rest) (turn s b (first ∷ rest)) first in
    let ih = keeps_order_by n s p priority (free_after e) more (omega (arith, is, length-others s free first rest)) (others_order s free first rest sorted)
    (others_all s (λ item. p item ≡ true → item.priority ≡ priority) free first rest class) in
    ap (λ es. filter p (map item_of es)) (service-step s free first rest)
    ∙ ap (λ y. cond (p y) (y ∷ filter p (map item_of (service s (free_after e) more))) (filter p (map item_of (service s (free_after e) more)))) (item_of-next s free first rest)
    ∙ ap (λ ys. cond (p x) (x ∷ ys) ys) ih
    ∙ sym (others_filter s p free first rest (none_before s p priority b first rest sorted class))

pub keeps_order : (s : Settings) (p : Item → Bool) (priority : Priority) (items : List Item) → InOrder s items → All (λ item. p item ≡ true → item.priority ≡ priority) items
    → filter p (map item_of (service s 0 items)) ≡ filter p items
keeps_order s p priority items sorted class = keeps_order_by (length items) s p priority 0 items refl sorted class
