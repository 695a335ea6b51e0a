-- The bytes that are occupied at t: those on the line, and those that wait.
use Rattle.std.proofs.Common.{◌≡◌, ℕ, zero, suc, ◌+◌, ◌-◌, ◌<◌, ◌≤◌, Bool, true, false, cond, List, [], ◌∷◌, length, get_or, refl, ap, sym, ◌∙◌, arith, ⊎_elim}
use Rattle.std.specs.Prelude.{max, filter, nat_lt, nat_le, not, sum_by}
use Rattle.std.proofs.lemmas.Bool.{cases_lt, cond-true, cond-false}
use Rattle.std.proofs.lemmas.Bool.Decides.{nat_tests}
use Rattle.std.proofs.lemmas.List.Sums.{sum_by-cons, sum_by-append, sum_by-remove}
use Rattle.std.proofs.lemmas.List.Elements.{filter-append}
use Rattle.afdx_units.specs.declared.line.Speed.{Speed}
use Rattle.afdx_units.specs.declared.line.Speed.TheVariants.{Ten, Hundred, Thousand}
use Rattle.afdx_units.specs.Line.{cost_of}
use Rattle.afdx_port.specs.declared.Settings.{Settings}
use Rattle.afdx_port.specs.declared.Item.{Item}
use Rattle.afdx_port.specs.declared.Sent.{Sent}
use Rattle.afdx_port.specs.declared.Aged.{Aged}
use Rattle.afdx_port.specs.Service.{came, Event, sending, aging, instant, item_of, free_after, fate, next, others, turn, serve, service, before, sent_of}
use Rattle.afdx_port.specs.Admission.{is_gone, occupied}
use Rattle.afdx_port.specs.Inner.Progress.{left, on_line}
use Rattle.afdx_port.proofs.Turns.{instant-next, free_after-next, item_of-next, turn-lt, service-step, by_events, by_steps}
use Rattle.afdx_port.proofs.Earlier.{late, late_start, before-step}
use Rattle.afdx_port.proofs.Parts.{left-step, left-stop, split}

abbrev pub stays : ℕ → Event → Bool
stays t event = not (is_gone t event)

abbrev pub bytes : List Event → ℕ
bytes events = sum_by (λ event. (item_of event).size) events

pub sum_by-others : (s : Settings) (f : Item → ℕ) (free : ℕ) (first : Item) (rest : List Item) → sum_by f (others s free first rest)
    + f (get_or (first ∷ rest) (turn s (max free (came s first)) (first ∷ rest)) first) ≡ sum_by f (first ∷ rest)
unfolding others
sum_by-others s f free first rest = sum_by-remove f (first ∷ rest) (turn s (max free (came s first)) (first ∷ rest)) first (turn-lt s (max free (came s first)) first rest)

-- each item has one event
pub sum_by-service : (f : Item → ℕ) (s : Settings) (free : ℕ) (items : List Item) → sum_by (λ event. f (item_of event)) (service s free items) ≡ sum_by f items
sum_by-service f s = by_events s (λ free items. sum_by (λ event. f (item_of event)) (service s free items) ≡ sum_by f items)
    (λ free. refl)
    (λ free first rest ih.
    let e = next s free first rest in
    let more = service s (free_after e) (others s free first rest) in
    let one = ap (sum_by (λ event. f (item_of event))) (service-step s free first rest) ∙ sum_by-cons (λ event. f (item_of event)) e more in
    let here = ap f (item_of-next s free first rest) in
    omega (arith, one, ih, here, sum_by-others s f free first rest))

pub cost-positive : (speed : Speed) (size : ℕ) → 0 < cost_of speed size
cost-positive Ten size = omega arith
cost-positive Hundred size = omega arith
cost-positive Thousand size = omega arith

-- an event at t or later has not gone at t
stays_fate : (s : Settings) (t b : ℕ) (x : Item) → t ≤ b → stays t (fate s b x) ≡ true
stays_fate s t b x le =
    let some = cost-positive s.speed x.size in
    elim (nat_lt s.max_delay (b - x.stamp)) as (λ v. stays t (cond v (aging (record { item = x; at = b })) (sending (record { item = x; begin = b; end = b + cost_of s.speed x.size }))) ≡ true)
    [ true ↦ grind (arith, nat_tests) | false ↦ stays_end t b (cost_of s.speed x.size) le some ] where
      stays_end : (t b c : ℕ) → t ≤ b → 0 < c → not (nat_le (b + c) t) ≡ true
      stays_end t b c le some = grind (arith, nat_tests)

stays-next : (s : Settings) (t free : ℕ) (first : Item) (rest : List Item) → t ≤ max free (came s first) → stays t (next s free first rest) ≡ true
unfolding next
stays-next s t free first rest le = stays_fate s t (max free (came s first)) _ le

all_stay : (n : ℕ) (s : Settings) (t free : ℕ) (items : List Item) → t ≤ free → filter (stays t) (serve n s free items) ≡ serve n s free items
all_stay zero s t free items le = refl
all_stay (suc n) s t free [] le = refl
all_stay (suc n) s t free (first ∷ rest) le =
    let e = next s free first rest in
    cond-true (stays t e) _ _ (stays-next s t free first rest (omega arith))
    ∙ ap (λ es. e ∷ es) (all_stay n s t (free_after e) (others s free first rest) (omega (arith, free_after-next s free first rest)))

all_stay_start : (s : Settings) (t free : ℕ) (first : Item) (rest : List Item) → t ≤ max free (came s first) → filter (stays t) (service s free (first ∷ rest)) ≡ service s free (first ∷ rest)
all_stay_start s t free first rest le =
    let e = next s free first rest in
    cond-true (stays t e) _ _ (stays-next s t free first rest le)
    ∙ ap (λ es. e ∷ es) (all_stay (length rest) s t (free_after e) (others s free first rest) (omega (arith, free_after-next s free first rest)))

-- nothing of what is left at t has gone at t
pub left_stays : (s : Settings) (t free : ℕ) (items : List Item) → filter (stays t) (service s (left s t free items).free (left s t free items).waiting)
    ≡ service s (left s t free items).free (left s t free items).waiting
left_stays s t = by_steps s t (λ free items. filter (stays t) (service s (left s t free items).free (left s t free items).waiting) ≡ service s (left s t free items).free (left s t free items).waiting)
    (λ free. refl)
    (λ free first rest lt ih. rw (left-step s t free first rest lt) ih)
    (λ free first rest ge. rw (left-stop s t free first rest ge) (all_stay_start s t free first rest ge))

on_line-done : (t : ℕ) (x : Sent) (xs : List Sent) → x.end ≤ t → on_line t (x ∷ xs) ≡ on_line t xs
on_line-done t x [] le = grind (arith, nat_tests)
on_line-done t x (y ∷ xs) le = refl

-- of the events before t only the last can be on the line
line_bytes_step : (t : ℕ) (e : Event) (es : List Event) → instant e < t → (t < free_after e → es ≡ []) → bytes (filter (stays t) es) ≡ on_line t (sent_of es) → bytes (filter (stays t) (e ∷ es))
    ≡ on_line t (sent_of (e ∷ es))
line_bytes_step t (sending x) es lt stop ih =
    ⊎_elim
    (λ (on : t < x.end). rw (stop on) (last_on t x on))
    (λ (over : x.end ≤ t). ap bytes (cond-false (stays t (sending x)) _ _ (gone_end x over)) ∙ ih ∙ sym (on_line-done t x (sent_of es) over))
    (cases_lt t x.end) where
      last_on : (t : ℕ) (x : Sent) → t < x.end → bytes (filter (stays t) (sending x ∷ [])) ≡ on_line t (x ∷ [])
      last_on t x on = grind (arith, nat_tests)

      gone_end : (x : Sent) → x.end ≤ t → stays t (sending x) ≡ false
      gone_end x over = grind (arith, nat_tests)
line_bytes_step t (aging x) es lt stop ih = ap bytes (cond-false (stays t (aging x)) _ _ (gone_at x lt)) ∙ ih where
  gone_at : (x : Aged) → x.at < t → stays t (aging x) ≡ false
  gone_at x lt = grind (arith, nat_tests)

line_bytes : (s : Settings) (t free : ℕ) (items : List Item) → bytes (filter (stays t) (before t (service s free items))) ≡ on_line t (sent_of (before t (service s free items)))
line_bytes s t = by_steps s t (λ free items. bytes (filter (stays t) (before t (service s free items))) ≡ on_line t (sent_of (before t (service s free items))))
    (λ free. refl)
    (λ free first rest lt ih.
    let e = next s free first rest in
    let more = before t (service s (free_after e) (others s free first rest)) in
    let stop : t < free_after e → more ≡ [] = λ on. late (length (others s free first rest)) s t (free_after e) (others s free first rest) (omega arith) in
    rw (before-step s t free first rest lt) (line_bytes_step t e more (omega (arith, instant-next s free first rest)) stop ih))
    (λ free first rest ge. rw (late_start s t free first rest ge) refl)

-- what is occupied at t is on the line or waits
pub occupied_is : (s : Settings) (t : ℕ) (admitted : List Item) → occupied s t admitted ≡ on_line t (sent_of (before t (service s 0 admitted)))
    + sum_by (λ item. item.size) (left s t 0 admitted).waiting
occupied_is s t admitted =
    let done = before t (service s 0 admitted) in
    let rest = service s (left s t 0 admitted).free (left s t 0 admitted).waiting in
    ap (λ es. bytes (filter (stays t) es)) (split s t 0 admitted)
    ∙ ap bytes (filter-append (stays t) done rest)
    ∙ sum_by-append (λ event. (item_of event).size) (filter (stays t) done) (filter (stays t) rest)
    ∙ rw (line_bytes s t 0 admitted, left_stays s t 0 admitted, sum_by-service (λ item. item.size) s (left s t 0 admitted).free (left s t 0 admitted).waiting) refl
