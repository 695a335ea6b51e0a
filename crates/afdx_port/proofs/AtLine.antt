-- The line at an instant: it goes on, takes arrivals, and has the events that are left.
use Rattle.std.proofs.Common.{◌≡◌, ℕ, ◌+◌, ◌-◌, ◌≤◌, Bool, true, false, cond, List, [], ◌∷◌, ◌++◌, length, Some, refl, ap, sym, ◌∙◌, arith}
use Rattle.std.specs.Prelude.{max, not, nat_lt, sum_by, slice_get, All, Contains}
use Rattle.std.specs.Option.{option_map}
use Rattle.std.proofs.lemmas.List.Elements.{All-nil, All-cons, All-head, All-tail, All-weaker, All-append, All-filter, Contains-get_or, filter-append}
use Rattle.afdx_port.specs.declared.Settings.{Settings}
use Rattle.afdx_port.specs.declared.Item.{Item}
use Rattle.afdx_port.specs.declared.Sent.{Sent}
use Rattle.afdx_port.specs.Service.{Event, sending, aging, instant, came, item_of, reach, free_after, fate, next, others, in_turn, service, before, sent_of}
use Rattle.afdx_port.specs.Content.{Content, done}
use Rattle.afdx_units.specs.Line.{is_high}
use Rattle.afdx_port.specs.Inner.Progress.{LineState, left, is_due}
use Rattle.afdx_port.specs.Inner.Order.{in_line, highs, lows, line_up}
use Rattle.afdx_port.specs.Inner.Course.{rest_in_line, reached, first_start, line_at}
use Rattle.afdx_port.specs.Inner.Work.{item_cost, work, HaveCome}
use Rattle.afdx_port.proofs.Choices.{choose_yes, choose_no}
use Rattle.afdx_port.proofs.Turns.{free_after-next, instant-fate, by_steps}
use Rattle.afdx_port.proofs.Parts.{left-step, left-stop, split, left_again, left-append}
use Rattle.afdx_port.proofs.Working.{not_due, due_no, others_all, left_all, left_waits, work_is}
use Rattle.afdx_port.proofs.Bounds.{service_all_by}
use Rattle.afdx_port.proofs.InLine.{serves_in_line, line_up-step, next_is}
use Rattle.afdx_port.proofs.LineUp.{high_part, low_part, filter_passes, filter_lows, sum_line_up}

-- a line state, seen as the line at u
abbrev pub lined : ℕ → LineState → LineState
lined u q = record { free = max q.free u; waiting = line_up q.waiting }

pub line_is : (s : Settings) (t : ℕ) (items : List Item) → line_at s t items ≡ lined t (left s t 0 items)
unfolding line_at
line_is s t items = refl

pub fresh_line : (s : Settings) (t : ℕ) → record { free = t; waiting = [] } ≡ line_at s t []
unfolding line_at
fresh_line s t = ap (λ f. record { free = f; waiting = [] }) (free_at t) where
  free_at : (t : ℕ) → t ≡ max 0 t
  free_at t = omega arith

-- where the items have come by t, and no event lies before it, the next start is known without them
start_is : (s : Settings) (t free : ℕ) (first : Item) (rest : List Item) → HaveCome s t (first ∷ rest) → is_due s t free (first ∷ rest) ≡ false → max free (came s first) ≡ max free t
start_is s t free first rest come due =
    let le = All-head (λ (item : Item). came s item ≤ t) first rest come in
    let ge = due_no s t free first rest due in
    omega (arith, le, ge)

all_by_start : (s : Settings) (t free : ℕ) (first : Item) (rest : List Item) → HaveCome s t (first ∷ rest) → is_due s t free (first ∷ rest) ≡ false
    → All (λ (item : Item). came s item ≤ max free (came s first)) (first ∷ rest)
all_by_start s t free first rest come due =
    let start = start_is s t free first rest come due in
    All-weaker (λ (item : Item). came s item ≤ t) (λ (item : Item). came s item ≤ max free (came s first)) (λ item h. omega (arith, h, start)) (first ∷ rest) come

moved : (t u free : ℕ) (items : List Item) → t ≤ u → record { free = max free u; waiting = items } ≡ reached u (record { free = max free t; waiting = items })
moved t u free items le = let e : max free u ≡ max (max free t) u = omega arith in ap (λ f. record { free = f; waiting = items }) e

on_by : (s : Settings) (t u : ℕ) → t ≤ u → (free : ℕ) (items : List Item) → HaveCome s t items → is_due s t free items ≡ false
    → lined u (left s u free items) ≡ reached u (rest_in_line s u (max free t) (line_up items))
on_by s t u le = by_steps s u (λ free items. HaveCome s t items → is_due s t free items ≡ false → lined u (left s u free items) ≡ reached u (rest_in_line s u (max free t) (line_up items)))
    (λ free come due. moved t u free [] le)
    (λ free first rest lt ih come due.
    let e = next s free first rest in
    let f = free_after e in
    let more = others s free first rest in
    let x = in_turn s free first rest in
    let start = start_is s t free first rest come due in
    let event : fate s (max free t) x ≡ e = ap (λ b. fate s b x) (sym start) ∙ sym (next_is s free first rest) in
    let after : max free t ≤ f = omega (arith, start, free_after-next s free first rest) in
    let same : f ≡ max f t = omega (arith, after) in
    let go = rest_in_line s u (free_after (fate s (max free t) x)) (line_up more) in
    let stay : LineState = record { free = max free t; waiting = x ∷ line_up more } in
    let line : rest_in_line s u (max free t) (line_up (first ∷ rest)) ≡ rest_in_line s u (max f t) (line_up more) =
    ap (rest_in_line s u (max free t)) (line_up-step s free first rest (all_by_start s t free first rest come due)) ∙ choose_yes go stay (omega (arith, start, lt))
    ∙ ap (λ e. rest_in_line s u (free_after e) (line_up more)) event ∙ ap (λ b. rest_in_line s u b (line_up more)) same in
    ap (lined u) (left-step s u free first rest lt) ∙ ih (others_all s (λ (item : Item). came s item ≤ t) free first rest come) (not_due s t f more (omega (arith, after))) ∙ sym (ap (reached u) line))
    (λ free first rest ge come due.
    let start = start_is s t free first rest come due in
    let x = in_turn s free first rest in
    let more = others s free first rest in
    let step : line_up (first ∷ rest) ≡ x ∷ line_up more = line_up-step s free first rest (all_by_start s t free first rest come due) in
    let go = rest_in_line s u (free_after (fate s (max free t) x)) (line_up more) in
    let stay : LineState = record { free = max free t; waiting = x ∷ line_up more } in
    let line : rest_in_line s u (max free t) (line_up (first ∷ rest)) ≡ record { free = max free t; waiting = line_up (first ∷ rest) } =
    ap (rest_in_line s u (max free t)) step ∙ choose_no go stay (omega (arith, start, ge)) ∙ ap (λ xs. record { free = max free t; waiting = xs }) (sym step) in
    ap (lined u) (left-stop s u free first rest ge) ∙ moved t u free (line_up (first ∷ rest)) le ∙ sym (ap (reached u) line))

module _ (s : Settings) (t : ℕ) (items : List Item) where
  abbrev q : LineState
  q = left s t 0 items

  come_left : HaveCome s t items → HaveCome s t q.waiting
  come_left come = left_all (λ (item : Item). came s item ≤ t) s t 0 items come

  pub line_goes_on : (u : ℕ) → t ≤ u → HaveCome s t items → line_at s u items ≡ reached u (rest_in_line s u (line_at s t items).free (line_at s t items).waiting)
  unfolding line_at
  line_goes_on u le come =
      ap (lined u) (sym (left_again s t u 0 items le))
      ∙ on_by s t u le q.free q.waiting (come_left come) (left_waits s t 0 items)

  pub line_joined : (x : Item) → t ≤ came s x → line_at s t (items ++ x ∷ []) ≡ record { free = (line_at s t items).free; waiting = line_up ((line_at s t items).waiting ++ x ∷ []) }
  unfolding line_at
  line_joined x le =
      ap (lined t) (left-append s t 0 items (x ∷ []) (le, tt))
      ∙ ap (λ xs. record { free = max q.free t; waiting = xs }) (sym (again q.waiting)) where
        again : (ws : List Item) → line_up (line_up ws ++ x ∷ []) ≡ line_up (ws ++ x ∷ [])
        again ws =
            let high = λ (item : Item). is_high item.priority in
            let low = λ (item : Item). not (is_high item.priority) in
            let hs = highs ws in
            let ls = lows ws in
            let one : highs (line_up ws ++ x ∷ []) ≡ highs (ws ++ x ∷ []) =
            filter-append high (line_up ws) (x ∷ []) ∙ ap (λ ys. ys ++ highs (x ∷ [])) (high_part hs ls (filter_passes high ws) (filter_lows ws)) ∙ sym (filter-append high ws (x ∷ [])) in
            let two : lows (line_up ws ++ x ∷ []) ≡ lows (ws ++ x ∷ []) =
            filter-append low (line_up ws) (x ∷ []) ∙ ap (λ ys. ys ++ lows (x ∷ [])) (low_part hs ls (filter_passes high ws) (filter_lows ws)) ∙ sym (filter-append low ws (x ∷ [])) in
            ap (λ ys. ys ++ lows (line_up ws ++ x ∷ [])) one ∙ ap (λ ys. highs (ws ++ x ∷ []) ++ ys) two

  -- what is left, in line
  left_in_line : (free : ℕ) (ws : List Item) → HaveCome s t ws → is_due s t free ws ≡ false → service s free ws ≡ in_line s (max free t) (line_up ws)
  left_in_line free [] come due = refl
  left_in_line free (first ∷ rest) come due =
      serves_in_line s free (first ∷ rest) (all_by_start s t free first rest come due)
      ∙ ap (λ b. in_line s b (line_up (first ∷ rest))) (start_is s t free first rest come due)

  pub events_follow : HaveCome s t items → service s 0 items ≡ before t (service s 0 items) ++ in_line s (line_at s t items).free (line_at s t items).waiting
  unfolding line_at
  events_follow come =
      split s t 0 items
      ∙ ap (λ es. before t (service s 0 items) ++ es) (left_in_line q.free q.waiting (come_left come) (left_waits s t 0 items))

  pub events_in_parts : (later : List Event) × (service s 0 items ≡ before t (service s 0 items) ++ later)
  events_in_parts = (service s q.free q.waiting, split s t 0 items)

  pub work_of_line : work s t items ≡ ((line_at s t items).free - t) + sum_by (item_cost s) (line_at s t items).waiting
  unfolding line_at
  work_of_line =
      let free : q.free - t ≡ max q.free t - t = omega arith in
      work_is s t items
      ∙ ap (λ n. n + sum_by (item_cost s) q.waiting) free
      ∙ ap (λ n. (max q.free t - t) + n) (sym (sum_line_up (item_cost s) q.waiting))

  pub waiting_of_items : All (Contains items) (line_at s t items).waiting
  unfolding line_at
  waiting_of_items =
      let all = left_all (Contains items) s t 0 items (λ k d lt. Contains-get_or items k d lt) in
      All-append (Contains items) (highs q.waiting) (lows q.waiting)
      (All-filter (λ item. is_high item.priority) (Contains items) q.waiting all)
      (All-filter (λ item. not (is_high item.priority)) (Contains items) q.waiting all)

pub events_of_items : (s : Settings) (free : ℕ) (items : List Item) → All (λ event. Contains items (item_of event)) (service s free items)
events_of_items s free items = service_all_by (length items) (Contains items) s free items refl (λ k d lt. Contains-get_or items k d lt)

sent_all : (P : Item → Type 0) (events : List Event) → All (λ event. P (item_of event)) events → All (λ (sent : Sent). P sent.item) (sent_of events)
sent_all P [] all = All-nil (λ (sent : Sent). P sent.item)
sent_all P (sending x ∷ events) all =
    All-cons (λ (sent : Sent). P sent.item) x (sent_of events) (All-head (λ event. P (item_of event)) (sending x) events all)
    (sent_all P events (All-tail (λ event. P (item_of event)) (sending x) events all))
sent_all P (aging x ∷ events) all = sent_all P events (All-tail (λ event. P (item_of event)) (aging x) events all)

pub sent_of_items : (c : Content) → All (λ (sent : Sent). Contains c.admitted sent.item) (sent_of (done c))
sent_of_items c = sent_all (Contains c.admitted) (done c) (by c.finished) where
  all : List Event
  all = service c.settings 0 c.admitted

  by : (finished : Bool) → All (λ event. Contains c.admitted (item_of event)) (cond finished all (before (reach c.settings c.horizon) all))
  by true = events_of_items c.settings 0 c.admitted
  by false = All-filter (λ event. nat_lt (instant event) (reach c.settings c.horizon)) (λ event. Contains c.admitted (item_of event)) all (events_of_items c.settings 0 c.admitted)

-- the first event behind those that were carried out
pub due_at : (xs ys : List Event) → option_map instant (slice_get (xs ++ ys) (length xs)) ≡ option_map instant (slice_get ys 0)
due_at [] ys = refl
due_at (x ∷ xs) ys = due_at xs ys

first_due : (s : Settings) (b : ℕ) (items : List Item) → option_map instant (slice_get (in_line s b items) 0) ≡ first_start b items
first_due s b [] = refl
first_due s b (x ∷ items) = ap Some (instant-fate s b x)

pub due_left : (s : Settings) (t : ℕ) (items : List Item) → HaveCome s t items → first_start (line_at s t items).free (line_at s t items).waiting
    ≡ option_map instant (slice_get (service s 0 items) (length (before t (service s 0 items))))
due_left s t items come =
    let done = before t (service s 0 items) in
    let line = line_at s t items in
    sym (ap (λ es. option_map instant (slice_get es (length done))) (events_follow s t items come) ∙ due_at done (in_line s line.free line.waiting) ∙ first_due s line.free line.waiting)
