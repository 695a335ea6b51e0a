-- The course of a line once all that wait have come: one item starts after the other.
use Rattle.std.specs.Prelude.{ℕ, ◌+◌, ◌-◌, ◌≤◌, ◌≡◌, max, All, Contains, sum_by, Option, Some, None, nat_lt, if◌then◌else◌, List, [], ◌∷◌, ◌++◌}
use Rattle.afdx_port.specs.declared.Settings.{Settings}
use Rattle.afdx_port.specs.declared.Item.{Item}
use Rattle.afdx_port.specs.declared.Sent.{Sent}
use Rattle.afdx_port.specs.Service.{Event, came, item_of, free_after, fate, service, before, sent_of}
use Rattle.afdx_port.specs.Content.{Content, done}
use Rattle.afdx_port.specs.Inner.Order.{line_up, in_line}
use Rattle.afdx_port.specs.Inner.Progress.{LineState, left}
use Rattle.afdx_port.specs.Inner.Work.{item_cost, work, HaveCome}

-- the next event, at b, if any item waits
abbrev pub next_in_line : Settings → ℕ → List Item → List Event
next_in_line s b [] = []
next_in_line s b (x ∷ items) = fate s b x ∷ []

-- the next start and the items that wait, after the next event
abbrev pub after_next : Settings → ℕ → List Item → LineState
after_next s b [] = record { free = b; waiting = [] }
after_next s b (x ∷ items) = record { free = free_after (fate s b x); waiting = items }

-- the next start and the items that wait, after all events before t
abbrev pub rest_in_line : Settings → ℕ → ℕ → List Item → LineState
rest_in_line s t b [] = record { free = b; waiting = [] }
rest_in_line s t b (x ∷ items) = if nat_lt b t then rest_in_line s t (free_after (fate s b x)) items else record { free = b; waiting = x ∷ items }

-- the line once the instant t has come
abbrev pub reached : ℕ → LineState → LineState
reached t q = record { free = max q.free t; waiting = q.waiting }

-- the instant of the first event, if any
abbrev pub first_start : ℕ → List Item → Option ℕ
first_start b [] = None
first_start b (x ∷ items) = Some b

-- the line at t: the instant from which the next item starts, and the items that wait, in the order in which they start
unfoldable pub line_at : Settings → ℕ → List Item → LineState
line_at s t items = record { free = max (left s t 0 items).free t; waiting = line_up (left s t 0 items).waiting }

-- the laws: until a later instant the line serves those that wait, one after the other
abbrev pub LineGoesOn : Type 0
LineGoesOn = (s : Settings) (t u : ℕ) (items : List Item) → t ≤ u → HaveCome s t items
    → line_at s u items ≡ reached u (rest_in_line s u (line_at s t items).free (line_at s t items).waiting)

-- an arrival comes after those of its priority
abbrev pub ArrivalJoinsTheLine : Type 0
ArrivalJoinsTheLine = (s : Settings) (t : ℕ) (items : List Item) (x : Item) → t ≤ came s x
    → line_at s t (items ++ x ∷ []) ≡ record { free = (line_at s t items).free; waiting = line_up ((line_at s t items).waiting ++ x ∷ []) }

-- all events are those before t, and then those of the line at t
abbrev pub EventsFollowTheLine : Type 0
EventsFollowTheLine = (s : Settings) (t : ℕ) (items : List Item) → HaveCome s t items
    → service s 0 items ≡ before t (service s 0 items) ++ in_line s (line_at s t items).free (line_at s t items).waiting

-- the events before t are a prefix of all
abbrev pub EventsAreInParts : Type 0
EventsAreInParts = (s : Settings) (t : ℕ) (items : List Item) → (later : List Event) × (service s 0 items ≡ before t (service s 0 items) ++ later)

-- the work is what the line still sends, and what waits
abbrev pub WorkIsOfTheLine : Type 0
WorkIsOfTheLine = (s : Settings) (t : ℕ) (items : List Item)
    → work s t items ≡ ((line_at s t items).free - t) + sum_by (item_cost s) (line_at s t items).waiting

-- an item that waits is one of those that came
abbrev pub WaitingIsOfItems : Type 0
WaitingIsOfItems = (s : Settings) (t : ℕ) (items : List Item) → All (Contains items) (line_at s t items).waiting

-- an item that an event is about is one of those that came
abbrev pub EventsAreOfItems : Type 0
EventsAreOfItems = (s : Settings) (free : ℕ) (items : List Item) → All (λ event. Contains items (item_of event)) (service s free items)

-- an item that was sent is one of those that were admitted
abbrev pub SentIsOfItems : Type 0
SentIsOfItems = (c : Content) → All (λ (sent : Sent). Contains c.admitted sent.item) (sent_of (done c))
