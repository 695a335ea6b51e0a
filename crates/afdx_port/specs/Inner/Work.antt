-- The work of a port: the line time that what it admitted still needs.
use Rattle.std.specs.Prelude.{ℕ, ◌+◌, ◌-◌, ◌*◌, ◌<◌, ◌≤◌, ◌≡◌, min, max, false, nat_lt, if◌then◌else◌, List, [], ◌∷◌, ◌++◌, sum_by, filter, All}
use Rattle.afdx_units.specs.Line.{greatest_size, cost_of, tick_of, is_high}
use Rattle.afdx_units.specs.Time.{second}
use Rattle.afdx_port.specs.declared.Settings.{Settings}
use Rattle.afdx_port.specs.declared.Item.{Item}
use Rattle.afdx_port.specs.Service.{came, Event, sending, aging, service, before, sent_of, aged_of}
use Rattle.afdx_port.specs.Admission.{occupied}
use Rattle.afdx_port.specs.Inner.Progress.{left}
use Rattle.afdx_port.specs.Inner.Order.{InOrder}

-- the line time of an item
abbrev pub item_cost : Settings → Item → ℕ
item_cost s item = cost_of s.speed item.size

-- the line time that the item of an event still needs at t
abbrev pub rest_at : Settings → ℕ → Event → ℕ
rest_at s t (sending x) = min (item_cost s x.item) (x.end - t)
rest_at s t (aging x) = if nat_lt x.at t then 0 else item_cost s x.item

-- the work at t, if all the items have come by t
abbrev pub work : Settings → ℕ → List Item → ℕ
work s t items = sum_by (rest_at s t) (service s 0 items)

-- the line time before t that an event took
abbrev pub taken_by : ℕ → Event → ℕ
taken_by t (sending x) = min x.end t - min x.begin t
taken_by t (aging x) = 0

-- the line time before t in which the line sent
abbrev pub line_time : ℕ → Settings → List Item → ℕ
line_time t s items = sum_by (taken_by t) (service s 0 items)

-- no item is discarded before t
abbrev pub NoneAged : Settings → ℕ → List Item → Type 0
NoneAged s t items = aged_of (before t (service s 0 items)) ≡ []

-- all the items have come by t
abbrev pub HaveCome : Settings → ℕ → List Item → Type 0
HaveCome s t items = All (λ (item : Item). came s item ≤ t) items

-- the rest of what is being sent at t, and the line time of the high items that wait
abbrev pub high_work : Settings → ℕ → List Item → ℕ
high_work s t items = ((left s t 0 items).free - t) + sum_by (item_cost s) (filter (λ item. is_high item.priority) (left s t 0 items).waiting)

-- what is sent ends less than a second after it came
abbrev pub EndsWithinASecond : Type 0
EndsWithinASecond = (s : Settings) (free : ℕ) (items : List Item) → s.max_delay ≤ 500000000 → All (λ item. item.size ≤ greatest_size) items
    → All (λ x. x.end < x.item.stamp + second) (sent_of (service s free items))

-- the laws: while no item is discarded, what was admitted is worked off or still to do
abbrev pub WorkBalances : Type 0
WorkBalances = (s : Settings) (t : ℕ) (items : List Item) → NoneAged s t items → work s t items + line_time t s items ≡ sum_by (item_cost s) items

-- the work falls with time: the line rests only if no work is left
abbrev pub WorkFalls : Type 0
WorkFalls = (s : Settings) (t u : ℕ) (items : List Item) → t ≤ u → HaveCome s t items → NoneAged s u items → work s u items ≡ work s t items - (u - t)

-- a new arrival adds its line time to the work
abbrev pub WorkGrows : Type 0
WorkGrows = (s : Settings) (t : ℕ) (items : List Item) (x : Item) → t ≤ came s x → NoneAged s t items → work s t (items ++ x ∷ []) ≡ work s t items + item_cost s x

-- the bytes occupied are bounded by the work and one frame, part of which was sent already
abbrev pub WorkBoundsBytes : Type 0
WorkBoundsBytes = (s : Settings) (t most : ℕ) (items : List Item) → All (λ item. item_cost s item ≤ most) items → tick_of s.speed * occupied s t items ≤ work s t items + most

-- while no item is discarded, the high work falls, save that a low item may be begun when there is none
abbrev pub HighWorkFalls : Type 0
HighWorkFalls = (s : Settings) (t u most : ℕ) (items : List Item) → t ≤ u → HaveCome s t items → NoneAged s u items
    → All (λ item. is_high item.priority ≡ false → item_cost s item ≤ most) items
    → high_work s u items ≤ max (high_work s t items - (u - t)) most

-- in each window that begins with an item and ends with the list, the line time that comes is at most `most`/`scale`, and
-- `rate`/`scale` for each nanosecond until t
abbrev pub WithinCurve : Settings → ℕ → ℕ → ℕ → ℕ → List Item → Type 0
WithinCurve s scale most rate t items = (pre mid : List Item) (x : Item) → items ≡ pre ++ x ∷ mid → scale * sum_by (item_cost s) (x ∷ mid) ≤ most + rate * (t - came s x)

-- arrivals within a curve keep the work within `most`/`scale`
abbrev pub WorkWithin : Type 0
WorkWithin = (s : Settings) (scale most rate t : ℕ) (items : List Item) → rate ≤ scale → InOrder s items → HaveCome s t items → NoneAged s t items
    → WithinCurve s scale most rate t items → scale * work s t items ≤ most

-- the line time of a high item, and 0 of a low one
abbrev pub high_cost : Settings → Item → ℕ
high_cost s item = if is_high item.priority then item_cost s item else 0

-- in each window that begins with a high item and ends with the list, the line time of high items that comes is within the curve
abbrev pub HighWithinCurve : Settings → ℕ → ℕ → ℕ → ℕ → List Item → Type 0
HighWithinCurve s scale most rate t items = (pre mid : List Item) (x : Item) → items ≡ pre ++ x ∷ mid → scale * sum_by (high_cost s) (x ∷ mid) ≤ most + rate * (t - came s x)

-- high arrivals within a curve keep the high work within `most`/`scale` and one low item
abbrev pub HighWorkWithin : Type 0
HighWorkWithin = (s : Settings) (scale most rate low t : ℕ) (items : List Item) → rate ≤ scale → InOrder s items → HaveCome s t items → NoneAged s t items
    → All (λ item. is_high item.priority ≡ false → item_cost s item ≤ low) items
    → HighWithinCurve s scale most rate t items → scale * high_work s t items ≤ most + scale * low
