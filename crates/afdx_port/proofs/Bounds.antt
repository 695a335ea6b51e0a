-- What a new arrival adds to the work, what the work bounds, and how the high work falls.
use Rattle.std.proofs.Common.{◌≡◌, ℕ, zero, suc, ◌+◌, ◌-◌, ◌*◌, ◌<◌, ◌≤◌, Bool, true, false, cond, List, [], ◌∷◌, ◌++◌, length, get_or, Some, refl, ap, sym, ◌∙◌, arith, ⊎_elim, inl, inr, ◌⊎◌}
use Rattle.std.proofs.Common.{zero-add}
use Rattle.std.specs.Prelude.{max, filter, nat_lt, sum_by, All, unwrap_or, position}
use Rattle.std.specs.List.{AllByRecursion}
use Rattle.std.specs.Option.{option_map}
use Rattle.std.proofs.lemmas.List.Quantifiers.{position-Some}
use Rattle.std.proofs.lemmas.Bool.{cases_lt}
use Rattle.std.proofs.lemmas.Bool.Decides.{nat_tests}
use Rattle.std.proofs.lemmas.List.Sums.{sum_by-cons, sum_by_push}
use Rattle.std.proofs.lemmas.List.Elements.{All-head, All-tail, All-cons, All-get_or, All-nil, All-filter, All-same, All-weaker}
use Rattle.afdx_units.specs.Line.{tick_of, is_high}
use Rattle.afdx_port.specs.declared.Settings.{Settings}
use Rattle.afdx_port.specs.declared.Item.{Item}
use Rattle.afdx_port.specs.declared.Sent.{Sent}
use Rattle.afdx_port.specs.Service.{came, Event, sending, aging, instant, item_of, free_after, next, others, turn, is_urgent, service, before, sent_of, aged_of}
use Rattle.afdx_port.specs.Admission.{occupied}
use Rattle.afdx_port.specs.Inner.Progress.{left, is_due, on_line}
use Rattle.afdx_port.specs.Inner.Work.{item_cost, work, NoneAged, HaveCome, high_work, high_cost}
use Rattle.afdx_port.proofs.Turns.{free_after-next, item_of-next, length-others, service-step, turn-lt, position-cons}
use Rattle.afdx_port.proofs.Earlier.{before-step}
use Rattle.afdx_port.proofs.Parts.{left-step, left-stop, left_again, left-append}
use Rattle.afdx_port.proofs.Room.{sum_by-others, occupied_is}
use Rattle.afdx_port.proofs.Working.{work_is, backlog, left_all, others_all, left_waits, not_due, due_no, sent_next, aged_head, aged_tail, left_none_aged}

pub adds : (f a c all : ℕ) → all ≡ a + c → f + all ≡ (f + a) + c
adds f a c all is = omega (arith, is)

pub work_grows : (s : Settings) (t : ℕ) (items : List Item) (x : Item) → t ≤ came s x → NoneAged s t items → work s t (items ++ x ∷ []) ≡ work s t items + item_cost s x
work_grows s t items x le none =
    let q = left s t 0 items in
    work_is s t (items ++ x ∷ [])
    ∙ ap (backlog s t) (left-append s t 0 items (x ∷ []) (le, tt))
    ∙ adds (q.free - t) (sum_by (item_cost s) q.waiting) (item_cost s x) _ (sum_by_push (item_cost s) q.waiting x)
    ∙ ap (λ n. n + item_cost s x) (sym (work_is s t items))

-- the items of the events are those of the list
pub service_all_by : (n : ℕ) (P : Item → Type 0) (s : Settings) (free : ℕ) (items : List Item) → length items ≡ n → All P items → All (λ e. P (item_of e)) (service s free items)
service_all_by n P s free [] is h = All-nil (λ e. P (item_of e))
service_all_by zero P s free (first ∷ rest) is h = absurd (omega (arith, is))
service_all_by (suc n) P s free (first ∷ rest) is h =
    let here : P (item_of (next s free first rest)) = rw (item_of-next s free first rest)
    (All-get_or P (first ∷ rest) (turn s (max free (came s first)) (first ∷ rest)) first (turn-lt s (max free (came s first)) first rest) h) in
    let e = next s free first rest in
    let more = service s (free_after e) (others s free first rest) in
    All-same (λ e. P (item_of e)) (service s free (first ∷ rest)) (e ∷ more) (service-step s free first rest)
    (All-cons (λ e. P (item_of e)) e more here (service_all_by n P s (free_after e) (others s free first rest) (omega (arith, is, length-others s free first rest))
    (others_all s P free first rest h)))

before_all : (P : Event → Type 0) (t : ℕ) (es : List Event) → All P es → All P (before t es)
before_all P t es h = All-filter (λ e. nat_lt (instant e) t) P es h

-- one frame at most is on the line
on_line_least : (s : Settings) (t most : ℕ) (es : List Event) → All (λ e. item_cost s (item_of e) ≤ most) es → tick_of s.speed * on_line t (sent_of es) ≤ most
on_line_least s t most [] h = omega arith
on_line_least s t most (aging x ∷ es) h = on_line_least s t most es (All-tail (λ e. item_cost s (item_of e) ≤ most) (aging x) es h)
on_line_least s t most (sending x ∷ es) h =
    first_least x (sent_of es) (All-head (λ e. item_cost s (item_of e) ≤ most) (sending x) es h) (on_line_least s t most es (All-tail (λ e. item_cost s (item_of e) ≤ most) (sending x) es h)) where
      bytes_least : (k size most : ℕ) → (size + 20) * k ≤ most → k * size ≤ most
      bytes_least k size most le = grind arith

      last_least : (k size t e most : ℕ) → (size + 20) * k ≤ most → k * cond (nat_lt t e) size 0 ≤ most
      last_least k size t e most le = elim (nat_lt t e) as (λ v. k * cond v size 0 ≤ most) [ true ↦ bytes_least k size most le | false ↦ omega arith ]

      first_least : (x : Sent) (xs : List Sent) → item_cost s x.item ≤ most → tick_of s.speed * on_line t xs ≤ most → tick_of s.speed * on_line t (x ∷ xs) ≤ most
      first_least x [] le ih = last_least (tick_of s.speed) x.item.size t x.end most le
      first_least x (y ∷ xs) le ih = ih

sizes_least : (s : Settings) (items : List Item) → tick_of s.speed * sum_by (λ (item : Item). item.size) items ≤ sum_by (item_cost s) items
sizes_least s [] = omega arith
sizes_least s (x ∷ items) =
    adds (tick_of s.speed) x.size (sum_by (λ (item : Item). item.size) items) (sum_by (item_cost s) items) _ _ (sum_by-cons (λ (item : Item). item.size) x items) (sum_by-cons (item_cost s) x items)
    (sizes_least s items) where
      adds : (k size a b a' b' : ℕ) → a' ≡ size + a → b' ≡ (size + 20) * k + b → k * a ≤ b → k * a' ≤ b'
      adds k size a b a' b' ea eb le = rw (ea, eb) (more k size a b le) where
        more : (k size a b : ℕ) → k * a ≤ b → k * (size + a) ≤ (size + 20) * k + b
        more k size a b le = omega arith

pub work_bounds_bytes : (s : Settings) (t most : ℕ) (items : List Item) → All (λ item. item_cost s item ≤ most) items → tick_of s.speed * occupied s t items ≤ work s t items + most
work_bounds_bytes s t most items h =
    let q = left s t 0 items in
    let done = before t (service s 0 items) in
    let line = on_line_least s t most done (before_all (λ e. item_cost s (item_of e) ≤ most) t (service s 0 items) (service_all_by (length items) (λ item. item_cost s item ≤ most) s 0 items refl h))
    in
    rw (occupied_is s t items, work_is s t items) (adds (tick_of s.speed) (on_line t (sent_of done)) (sum_by (λ (item : Item). item.size) q.waiting) (sum_by (item_cost s) q.waiting) (q.free - t) most
    line (sizes_least s q.waiting)) where
      adds : (k on sizes costs f most : ℕ) → k * on ≤ most → k * sizes ≤ costs → k * (on + sizes) ≤ (f + costs) + most
      adds k on sizes costs f most a b = omega arith

-- either no item passes, or there is a first that does
pub found : {X : Type 0} (p : X → Bool) (xs : List X) → AllByRecursion (λ x. p x ≡ false) xs ⊎ ((i : ℕ) × (position p xs ≡ Some i))
found p [] = inl tt
found {X} p (x ∷ xs) = decide (p x) refl (found p xs) where
  decide : (b : Bool) → p x ≡ b → AllByRecursion (λ x. p x ≡ false) xs ⊎ ((i : ℕ) × (position p xs ≡ Some i)) → AllByRecursion (λ x. p x ≡ false) (x ∷ xs) ⊎ ((i : ℕ) × (position p (x ∷ xs) ≡ Some i))
  decide true is ih = inr (0, position-cons p x xs ∙ ap (λ b. cond b (Some 0) (option_map suc (position p xs))) is)
  decide false is (inl none) = inl (is, none)
  decide false is (inr some) = inr (suc some.0, position-cons p x xs ∙ ap (λ b. cond b (Some 0) (option_map suc (position p xs))) is ∙ ap (option_map suc) some.1)

pub high_sum : (s : Settings) (items : List Item) → sum_by (item_cost s) (filter (λ item. is_high item.priority) items) ≡ sum_by (high_cost s) items
high_sum s [] = refl
high_sum s (x ∷ items) = decide (is_high x.priority) refl (high_sum s items) where
  decide : (b : Bool) → is_high x.priority ≡ b → sum_by (item_cost s) (filter (λ item. is_high item.priority) items) ≡ sum_by (high_cost s) items
      → sum_by (item_cost s) (filter (λ item. is_high item.priority) (x ∷ items)) ≡ sum_by (high_cost s) (x ∷ items)
  decide true is ih = ap (λ b. sum_by (item_cost s) (cond b (x ∷ filter (λ (item : Item). is_high item.priority) items) (filter (λ (item : Item). is_high item.priority) items))) is
      ∙ sum_by-cons (item_cost s) x (filter (λ (item : Item). is_high item.priority) items) ∙ ap (λ n. item_cost s x + n) ih
      ∙ sym (sum_by-cons (high_cost s) x items ∙ ap (λ b. cond b (item_cost s x) 0 + sum_by (high_cost s) items) is)
  decide false is ih = ap (λ b. sum_by (item_cost s) (cond b (x ∷ filter (λ (item : Item). is_high item.priority) items) (filter (λ (item : Item). is_high item.priority) items))) is
      ∙ ih
      ∙ sym (sum_by-cons (high_cost s) x items ∙ ap (λ b. cond b (item_cost s x) 0 + sum_by (high_cost s) items) is ∙ zero-add _)

-- where a low item has its turn at b, and all have come by b, no high one waits
no_high : (s : Settings) (b : ℕ) (items : List Item) → AllByRecursion (λ item. is_urgent s b item ≡ false) items → All (λ (item : Item). came s item ≤ b) items → sum_by (high_cost s) items ≡ 0
no_high s b [] none come = refl
no_high s b (x ∷ items) none come =
    let low = not_high x none.0 (All-head (λ (item : Item). came s item ≤ b) x items come) in
    sum_by-cons (high_cost s) x items ∙ ap (λ v. cond v (item_cost s x) 0 + sum_by (high_cost s) items) low
    ∙ ap (λ n. 0 + n) (no_high s b items none.1 (All-tail (λ (item : Item). came s item ≤ b) x items come)) where
      not_high : (x : Item) → is_urgent s b x ≡ false → came s x ≤ b → is_high x.priority ≡ false
      not_high x none le = grind (arith, nat_tests)

low_turn : (s : Settings) (b : ℕ) (first : Item) (rest : List Item) → All (λ (item : Item). came s item ≤ b) (first ∷ rest) → is_high (get_or (first ∷ rest) (turn s b (first ∷ rest)) first).priority
    ≡ false → sum_by (high_cost s) (first ∷ rest) ≡ 0
low_turn s b first rest come low = ⊎_elim
    (λ (none : AllByRecursion (λ item. is_urgent s b item ≡ false) (first ∷ rest)). no_high s b (first ∷ rest) none come)
    (λ (some : (i : ℕ) × (position (is_urgent s b) (first ∷ rest) ≡ Some i)).
    let at = position-Some (is_urgent s b) (first ∷ rest) some.0 first some.1 in
    let place : turn s b (first ∷ rest) ≡ some.0 = ap (λ o. unwrap_or o 0) some.1 in
    let urgent = ap (λ k. is_urgent s b (get_or (first ∷ rest) k first)) place ∙ at.1 in
    absurd (both (get_or (first ∷ rest) (turn s b (first ∷ rest)) first) low urgent))
    (found (is_urgent s b) (first ∷ rest)) where
      both : (x : Item) → is_high x.priority ≡ false → is_urgent s b x ≡ true → ⊥
      both x low urgent = grind (arith, nat_tests)

le_through : {a b c : ℕ} → a ≤ b → b ≤ c → a ≤ c
le_through h k = omega arith

high_falls_by : (n : ℕ) (s : Settings) (t u most free : ℕ) (items : List Item) → length items ≡ n → t ≤ u → HaveCome s t items → is_due s t free items ≡ false
    → aged_of (before u (service s free items)) ≡ []
    → All (λ item. is_high item.priority ≡ false → item_cost s item ≤ most) items
    → ((left s u free items).free - u) + sum_by (high_cost s) (left s u free items).waiting ≤ max (((free - t) + sum_by (high_cost s) items) - (u - t)) most
high_falls_by n s t u most free [] is le come due none small = omega arith
high_falls_by zero s t u most free (first ∷ rest) is le come due none small = absurd (omega (arith, is))
high_falls_by (suc n) s t u most free (first ∷ rest) is le come due none small =
    let start = due_no s t free first rest due in
    let come_first = All-head (λ (item : Item). came s item ≤ t) first rest come in
    ⊎_elim
    (λ (lt : max free (came s first) < u).
    let b = max free (came s first) in
    let e = next s free first rest in
    let more = others s free first rest in
    let x = get_or (first ∷ rest) (turn s b (first ∷ rest)) first in
    let none' = rw (before-step s u free first rest lt) at none in
    let free' : free_after e ≡ b + item_cost s x = sent_next s free first rest (aged_head e (before u (service s (free_after e) more)) none')
    ∙ ap (λ y. b + item_cost s y) (item_of-next s free first rest) in
    let after : t ≤ free_after e = omega (arith, free_after-next s free first rest) in
    let ih = high_falls_by n s t u most (free_after e) more (omega (arith, is, length-others s free first rest)) le (others_all s (λ (item : Item). came s item ≤ t) free first rest come)
    (not_due s t (free_after e) more after) (aged_tail e (before u (service s (free_after e) more)) none')
    (others_all s (λ (item : Item). is_high item.priority ≡ false → item_cost s item ≤ most) free first rest small) in
    let all = sum_by-others s (high_cost s) free first rest in
    let bound = turn_bound s b t u most (free - t) (free_after e) (sum_by (high_cost s) more) (sum_by (high_cost s) (first ∷ rest)) x free' start lt (omega arith) all
    (All-get_or (λ (item : Item). is_high item.priority ≡ false → item_cost s item ≤ most) (first ∷ rest) (turn s b (first ∷ rest)) first (turn-lt s b first rest) small)
    (λ low. low_turn s b first rest (All-weaker (λ (item : Item). came s item ≤ t) (λ (item : Item). came s item ≤ b) (λ item h. omega (arith, h)) (first ∷ rest) come) low) in
    rw (left-step s u free first rest lt) (le_through ih bound))
    (λ (ge : u ≤ max free (came s first)). rw (left-stop s u free first rest ge) (stop free (came s first) (sum_by (high_cost s) (first ∷ rest)) t u most le come_first ge))
    (cases_lt (max free (came s first)) u) where
      turn_bound : (s : Settings) (b t u most f f' m a : ℕ) (x : Item) → f' ≡ b + item_cost s x → t ≤ b → b < u → b - t ≡ f → m + high_cost s x ≡ a
          → (is_high x.priority ≡ false → item_cost s x ≤ most) → (is_high x.priority ≡ false → a ≡ 0)
          → max ((f' - t + m) - (u - t)) most ≤ max ((f + a) - (u - t)) most
      turn_bound s b t u most f f' m a x is start lt at all small none = decide (is_high x.priority) refl where
        decide : (v : Bool) → is_high x.priority ≡ v → max ((f' - t + m) - (u - t)) most ≤ max ((f + a) - (u - t)) most
        decide true yes' = let sum = rw yes' at all in omega (arith, sum, is, at)
        decide false no' = let sum = rw no' at all in omega (arith, sum, is, at, small no', none no')

      stop : (f x a t u most : ℕ) → t ≤ u → x ≤ t → u ≤ max f x → (f - u) + a ≤ max (((f - t) + a) - (u - t)) most
      stop f x a t u most le come ge = omega arith

pub high_work_falls : (s : Settings) (t u most : ℕ) (items : List Item) → t ≤ u → HaveCome s t items → NoneAged s u items
    → All (λ item. is_high item.priority ≡ false → item_cost s item ≤ most) items
    → high_work s u items ≤ max (high_work s t items - (u - t)) most
high_work_falls s t u most items le come none small =
    let q = left s t 0 items in
    let r = left s u q.free q.waiting in
    let bound = high_falls_by (length q.waiting) s t u most q.free q.waiting refl le (left_all (λ (item : Item). came s item ≤ t) s t 0 items come) (left_waits s t 0 items)
    (left_none_aged s t u items le none) (left_all (λ (item : Item). is_high item.priority ≡ false → item_cost s item ≤ most) s t 0 items small) in
    rw (← left_again s t u 0 items le, high_sum s r.waiting, high_sum s q.waiting) bound
