-- The work of a port balances, and falls as long as there is some.
use Rattle.std.proofs.Common.{◌≡◌, ℕ, zero, suc, ◌+◌, ◌-◌, ◌<◌, ◌≤◌, true, false, cond, List, [], ◌∷◌, ◌++◌, length, refl, ap, sym, ◌∙◌, arith, ⊎_elim}
use Rattle.std.specs.Prelude.{min, max, nat_lt, sum_by, All}
use Rattle.std.proofs.lemmas.Bool.{cases_lt, ltb-false}
use Rattle.std.proofs.lemmas.Bool.Decides.{nat_tests}
use Rattle.std.proofs.lemmas.List.Sums.{sum_by-cons, sum_by-append}
use Rattle.std.proofs.lemmas.List.Elements.{All-head}
use Rattle.afdx_units.specs.Line.{cost_of}
use Rattle.afdx_port.specs.declared.Settings.{Settings}
use Rattle.afdx_port.specs.declared.Item.{Item}
use Rattle.afdx_port.specs.Service.{came, Event, sending, aging, instant, item_of, free_after, fate, next, others, turn, service, before, aged_of}
use Rattle.afdx_port.specs.Inner.Progress.{LineState, left, is_due}
use Rattle.afdx_port.specs.Inner.Work.{item_cost, rest_at, work, taken_by, line_time, NoneAged, HaveCome}
use Rattle.afdx_port.proofs.Choices.{not_below}
use Rattle.afdx_port.proofs.Turns.{instant-next, free_after-next, item_of-next, length-others, service-step, by_steps}
use Rattle.afdx_port.proofs.Earlier.{late, late_start, before-step}
use Rattle.afdx_port.proofs.Parts.{left-step, left-stop, left_again, split, parts}
use Rattle.afdx_port.proofs.Room.{sum_by-others}
use Rattle.afdx_port.proofs.Steps.{aged_of-append, All_remove}

-- an event of the service: it takes its item's cost, or none
abbrev Takes : Settings → Event → Type 0
Takes s (sending x) = x.end ≡ x.begin + item_cost s x.item
Takes s (aging x) = Unit {0}

takes_fate : (s : Settings) (b : ℕ) (x : Item) → Takes s (fate s b x)
takes_fate s b x = elim (nat_lt s.max_delay (b - x.stamp)) as (λ v. Takes s (cond v (aging (record { item = x; at = b })) (sending (record { item = x; begin = b; end = b + cost_of s.speed x.size }))))
    [ true ↦ tt | false ↦ refl ]

takes-next : (s : Settings) (free : ℕ) (first : Item) (rest : List Item) → Takes s (next s free first rest)
unfolding next
takes-next s free first rest = takes_fate s (max free (came s first)) _

-- where an event is not an aging before t, what it took before t and what it needs then are its cost
rest_and_taken : (s : Settings) (t : ℕ) (e : Event) → Takes s e → (instant e < t → aged_of (e ∷ []) ≡ []) → rest_at s t e + taken_by t e ≡ item_cost s (item_of e)
rest_and_taken s t (sending x) takes kept = times (item_cost s x.item) x.begin x.end t takes where
  times : (c b e t : ℕ) → e ≡ b + c → min c (e - t) + (min e t - min b t) ≡ c
  times c b e t is = omega (arith, is)
rest_and_taken s t (aging x) takes kept = ⊎_elim (λ (lt : x.at < t). let none = kept lt in (cc)) (λ (ge : t ≤ x.at). waits x.at t (item_cost s x.item) ge) (cases_lt x.at t) where
  waits : (a t c : ℕ) → t ≤ a → cond (nat_lt a t) 0 c + 0 ≡ c
  waits a t c ge = grind (arith, nat_tests)

pub aged_head : (e : Event) (es : List Event) → aged_of (e ∷ es) ≡ [] → aged_of (e ∷ []) ≡ []
aged_head (sending x) es none = refl
aged_head (aging x) es none = (cc)

pub aged_tail : (e : Event) (es : List Event) → aged_of (e ∷ es) ≡ [] → aged_of es ≡ []
aged_tail (sending x) es none = none
aged_tail (aging x) es none = (cc)

balances_by : (n : ℕ) (s : Settings) (t free : ℕ) (items : List Item) → length items ≡ n → aged_of (before t (service s free items)) ≡ [] → sum_by (rest_at s t) (service s free items)
    + sum_by (taken_by t) (service s free items) ≡ sum_by (item_cost s) items
balances_by n s t free [] is none = refl
balances_by zero s t free (first ∷ rest) is none = absurd (omega (arith, is))
balances_by (suc n) s t free (first ∷ rest) is none =
    let e = next s free first rest in
    let es = service s (free_after e) (others s free first rest) in
    let at = instant-next s free first rest in
    let here : instant e < t → aged_of (e ∷ []) ≡ [] = λ lt. aged_head e (before t es) (rw (before-step s t free first rest (omega (arith, at))) at none) in
    let after : aged_of (before t es) ≡ [] = ⊎_elim
    (λ (lt : max free (came s first) < t). aged_tail e (before t es) (rw (before-step s t free first rest lt) at none))
    (λ (ge : t ≤ max free (came s first)). ap aged_of (late (length (others s free first rest)) s t (free_after e) (others s free first rest) (omega (arith, free_after-next s free first rest))))
    (cases_lt (max free (came s first)) t) in
    let one = rest_and_taken s t e (takes-next s free first rest) here in
    let ih = balances_by n s t (free_after e) (others s free first rest) (omega (arith, is, length-others s free first rest)) after in
    let item = ap (item_cost s) (item_of-next s free first rest) in
    let all = sum_by-others s (item_cost s) free first rest in
    rw (service-step s free first rest) (omega (arith, sum_by-cons (rest_at s t) e es, sum_by-cons (taken_by t) e es, one, ih, item, all))

pub work_balances : (s : Settings) (t : ℕ) (items : List Item) → NoneAged s t items → work s t items + line_time t s items ≡ sum_by (item_cost s) items
work_balances s t items none = balances_by (length items) s t 0 items refl none

-- what an event before t still needs at t is the time until the line is free
rest_is : (s : Settings) (t : ℕ) (e : Event) → Takes s e → instant e < t → rest_at s t e ≡ free_after e - t
rest_is s t (sending x) takes lt = times (item_cost s x.item) x.begin x.end t takes lt where
  times : (c b e t : ℕ) → e ≡ b + c → b < t → min c (e - t) ≡ e - t
  times c b e t is lt = omega (arith, is)
rest_is s t (aging x) takes lt = gone x.at t (item_cost s x.item) lt where
  gone : (a t c : ℕ) → a < t → cond (nat_lt a t) 0 c ≡ a - t
  gone a t c lt = grind (arith, nat_tests)

rest_late : (s : Settings) (t : ℕ) (e : Event) → Takes s e → t ≤ instant e → rest_at s t e ≡ item_cost s (item_of e)
rest_late s t (sending x) takes ge = times (item_cost s x.item) x.begin x.end t takes ge where
  times : (c b e t : ℕ) → e ≡ b + c → t ≤ b → min c (e - t) ≡ c
  times c b e t is ge = omega (arith, is)
rest_late s t (aging x) takes ge = waits x.at t (item_cost s x.item) ge where
  waits : (a t c : ℕ) → t ≤ a → cond (nat_lt a t) 0 c ≡ c
  waits a t c ge = grind (arith, nat_tests)

pub not_due : (s : Settings) (t free : ℕ) (items : List Item) → t ≤ free → is_due s t free items ≡ false
not_due s t free [] le = refl
not_due s t free (first ∷ rest) le = not_below _ _ (omega arith)

pub due_no : (s : Settings) (t free : ℕ) (first : Item) (rest : List Item) → is_due s t free (first ∷ rest) ≡ false → t ≤ max free (came s first)
due_no s t free first rest h = ltb-false _ _ h

left_free : (s : Settings) (t free : ℕ) (items : List Item) → t ≤ free → left s t free items ≡ record { free = free; waiting = items }
left_free s t free [] le = refl
left_free s t free (first ∷ rest) le = left-stop s t free first rest (omega arith)

-- of the events before t only the last still needs time
rest_before : (n : ℕ) (s : Settings) (t free : ℕ) (items : List Item) → length items ≡ n → free ≤ t → sum_by (rest_at s t) (before t (service s free items)) ≡ (left s t free items).free - t
rest_before n s t free [] is le = omega arith
rest_before zero s t free (first ∷ rest) is le = absurd (omega (arith, is))
rest_before (suc n) s t free (first ∷ rest) is le =
    ⊎_elim
    (λ (lt : max free (came s first) < t).
    let e = next s free first rest in
    let more = others s free first rest in
    let here = rest_is s t e (takes-next s free first rest) (omega (arith, instant-next s free first rest)) in
    let sum = sum_by-cons (rest_at s t) e (before t (service s (free_after e) more)) in
    rw (before-step s t free first rest lt, left-step s t free first rest lt)
    (⊎_elim
    (λ (on : t < free_after e).
    let none = ap (sum_by (rest_at s t)) (late (length more) s t (free_after e) more (omega arith)) in
    let stays = ap (λ (q : LineState). q.free) (left_free s t (free_after e) more (omega arith)) in
    omega (arith, sum, here, none, stays))
    (λ (over : free_after e ≤ t). omega (arith, sum, here, rest_before n s t (free_after e) more (omega (arith, is, length-others s free first rest)) over))
    (cases_lt t (free_after e))))
    (λ (ge : t ≤ max free (came s first)). rw (late_start s t free first rest ge, left-stop s t free first rest ge) (omega arith))
    (cases_lt (max free (came s first)) t)

-- what lies at t or later needs all its time
rest_left : (n : ℕ) (s : Settings) (t free : ℕ) (items : List Item) → length items ≡ n → is_due s t free items ≡ false → sum_by (rest_at s t) (service s free items) ≡ sum_by (item_cost s) items
rest_left n s t free [] is due = refl
rest_left zero s t free (first ∷ rest) is due = absurd (omega (arith, is))
rest_left (suc n) s t free (first ∷ rest) is due =
    let e = next s free first rest in
    let more = others s free first rest in
    let le = due_no s t free first rest due in
    let here = rest_late s t e (takes-next s free first rest) (omega (arith, instant-next s free first rest)) in
    let ih = rest_left n s t (free_after e) more (omega (arith, is, length-others s free first rest)) (not_due s t (free_after e) more (omega (arith, free_after-next s free first rest))) in
    rw (service-step s free first rest) (omega (
      arith,
      sum_by-cons (rest_at s t) e (service s (free_after e) more),
      here,
      ih,
      ap (item_cost s) (item_of-next s free first rest),
      sum_by-others s
          (item_cost s) free first rest,
    ))

pub others_all : (s : Settings) (P : Item → Type 0) (free : ℕ) (first : Item) (rest : List Item) → All P (first ∷ rest) → All P (others s free first rest)
unfolding others
others_all s P free first rest h = All_remove P (first ∷ rest) (turn s (max free (came s first)) (first ∷ rest)) h

-- what is left at t waits for t, and is of the items
pub left_waits : (s : Settings) (t free : ℕ) (items : List Item) → is_due s t (left s t free items).free (left s t free items).waiting ≡ false
left_waits s t = by_steps s t (λ free items. is_due s t (left s t free items).free (left s t free items).waiting ≡ false)
    (λ free. refl)
    (λ free first rest lt ih. rw (left-step s t free first rest lt) ih)
    (λ free first rest ge. rw (left-stop s t free first rest ge) (not_below _ _ ge))

pub left_all : (P : Item → Type 0) (s : Settings) (t free : ℕ) (items : List Item) → All P items → All P (left s t free items).waiting
left_all P s t = by_steps s t (λ free items. All P items → All P (left s t free items).waiting)
    (λ free h. h)
    (λ free first rest lt ih h. rw (left-step s t free first rest lt) (ih (others_all s P free first rest h)))
    (λ free first rest ge h. rw (left-stop s t free first rest ge) h)

-- the work is what the line still sends and what waits
abbrev pub backlog : Settings → ℕ → LineState → ℕ
backlog s t q = (q.free - t) + sum_by (item_cost s) q.waiting

pub work_is : (s : Settings) (t : ℕ) (items : List Item) → work s t items ≡ backlog s t (left s t 0 items)
work_is s t items =
    let q = left s t 0 items in
    let done = before t (service s 0 items) in
    ap (sum_by (rest_at s t)) (split s t 0 items)
    ∙ sum_by-append (rest_at s t) done (service s q.free q.waiting)
    ∙ rw (rest_before (length items) s t 0 items refl (omega arith), rest_left (length q.waiting) s t q.free q.waiting refl (left_waits s t 0 items)) refl

-- an event that is no aging occupies the line for its item's cost
pub sent_next : (s : Settings) (free : ℕ) (first : Item) (rest : List Item) → aged_of (next s free first rest ∷ []) ≡ [] → free_after (next s free first rest) ≡ max free (came s first)
    + item_cost s (item_of (next s free first rest))
unfolding next
sent_next s free first rest none = sent_fate s (max free (came s first)) _ none where
  sent_fate : (s : Settings) (b : ℕ) (x : Item) → aged_of (fate s b x ∷ []) ≡ [] → free_after (fate s b x) ≡ b + item_cost s (item_of (fate s b x))
  sent_fate s b x = elim (nat_lt s.max_delay (b - x.stamp)) as (λ v. let e = cond v (aging (record { item = x; at = b })) (sending (record { item = x; begin = b; end = b + cost_of s.speed x.size }))
      in aged_of (e ∷ []) ≡ [] → free_after e ≡ b + item_cost s (item_of e)) [ true ↦ (λ none. (cc)) | false ↦ (λ _. refl) ]

falls_by : (n : ℕ) (s : Settings) (t u free : ℕ) (items : List Item) → length items ≡ n → t ≤ u → HaveCome s t items → is_due s t free items ≡ false → aged_of (before u (service s free items)) ≡ []
    → backlog s u (left s u free items) ≡ ((free - t) + sum_by (item_cost s) items) - (u - t)
falls_by n s t u free [] is le come due none = omega arith
falls_by zero s t u free (first ∷ rest) is le come due none = absurd (omega (arith, is))
falls_by (suc n) s t u free (first ∷ rest) is le come due none =
    let start = due_no s t free first rest due in
    let come_first = All-head (λ (item : Item). came s item ≤ t) first rest come in
    ⊎_elim
    (λ (lt : max free (came s first) < u).
    let e = next s free first rest in
    let more = others s free first rest in
    let none' = rw (before-step s u free first rest lt) at none in
    let free' = sent_next s free first rest (aged_head e (before u (service s (free_after e) more)) none') in
    let after : t ≤ free_after e = omega (arith, free_after-next s free first rest) in
    let ih = falls_by n s t u (free_after e) more (omega (arith, is, length-others s free first rest)) le (others_all s (λ (item : Item). came s item ≤ t) free first rest come)
    (not_due s t (free_after e) more after) (aged_tail e (before u (service s (free_after e) more)) none') in
    rw (left-step s u free first rest lt) (ih ∙ sums (free - t) (free_after e) (max free (came s first)) (item_cost s (item_of e)) (sum_by (item_cost s) more) (sum_by (item_cost s) (first ∷ rest)) t u
    (omega arith) start free' (omega (arith, ap (item_cost s) (item_of-next s free first rest), sum_by-others s (item_cost s) free first rest))))
    (λ (ge : u ≤ max free (came s first)). rw (left-stop s u free first rest ge) (stop free (came s first) (sum_by (item_cost s) (first ∷ rest)) t u le come_first ge))
    (cases_lt (max free (came s first)) u) where
      sums : (f f' b c m a t u : ℕ) → b - t ≡ f → t ≤ b → f' ≡ b + c → m + c ≡ a → (f' - t + m) - (u - t) ≡ (f + a) - (u - t)
      sums f f' b c m a t u at le is all = omega (arith, at, is, all)

      stop : (f x a t u : ℕ) → t ≤ u → x ≤ t → u ≤ max f x → (f - u) + a ≡ ((f - t) + a) - (u - t)
      stop f x a t u le come ge = omega arith

append_none : {X : Type 0} (xs ys : List X) → xs ++ ys ≡ [] → ys ≡ []
append_none [] ys h = h
append_none (x ∷ xs) ys h = (cc)

pub left_none_aged : (s : Settings) (t u : ℕ) (items : List Item) → t ≤ u → NoneAged s u items → aged_of (before u (service s (left s t 0 items).free (left s t 0 items).waiting)) ≡ []
left_none_aged s t u items le none =
    let rest = before u (service s (left s t 0 items).free (left s t 0 items).waiting) in
    append_none (aged_of (before t (service s 0 items))) (aged_of rest) (sym (aged_of-append (before t (service s 0 items)) rest) ∙ ap aged_of (sym (parts s t u 0 items le)) ∙ none)

pub work_falls : (s : Settings) (t u : ℕ) (items : List Item) → t ≤ u → HaveCome s t items → NoneAged s u items → work s u items ≡ work s t items - (u - t)
work_falls s t u items le come none =
    let q = left s t 0 items in
    work_is s u items
    ∙ ap (backlog s u) (sym (left_again s t u 0 items le))
    ∙ falls_by (length q.waiting) s t u q.free q.waiting refl le (left_all (λ (item : Item). came s item ≤ t) s t 0 items come) (left_waits s t 0 items) (left_none_aged s t u items le none)
    ∙ ap (λ n. n - (u - t)) (sym (work_is s t items))
