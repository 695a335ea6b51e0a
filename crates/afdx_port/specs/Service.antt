-- How a port serves the items that wait: whose turn it is, and what becomes of each.
-- ARINC 664 Part 7: high goes before low without preemption, each in order of arrival, and age is limited.
-- What it leaves open is chosen here (profile).
use Rattle.std.specs.Prelude.{ℕ, ◌+◌, ◌-◌, max, zero, suc, Bool, ◌&&◌, nat_lt, nat_le, if◌then◌else◌, List, [], ◌∷◌, length, filter, position, unwrap_or, slice_index_or, remove}
use Rattle.afdx_units.specs.Line.{cost_of, is_high}
use Rattle.afdx_port.specs.declared.Settings.{Settings}
use Rattle.afdx_port.specs.declared.Item.{Item}
use Rattle.afdx_port.specs.declared.Sent.{Sent}
use Rattle.afdx_port.specs.declared.Aged.{Aged}

-- what becomes of an item: it is sent, or discarded for its age
pub data Event : Type 0 where
  sending : Sent → Event
  aging : Aged → Event

-- the instant at which an event lies
abbrev pub instant : Event → ℕ
instant (sending s) = s.begin
instant (aging a) = a.at

-- the instant from which the line is free after an event
abbrev pub free_after : Event → ℕ
free_after (sending s) = s.end
free_after (aging a) = a.at

-- the item that an event is about
abbrev pub item_of : Event → Item
item_of (sending s) = s.item
item_of (aging a) = a.item

-- profile: the instant by which all is queued that came by the stamp t, one latency later
unfoldable pub reach : Settings → ℕ → ℕ
reach s t = t + s.latency

-- the instant at which an item is queued
abbrev pub came : Settings → Item → ℕ
came s item = reach s item.stamp

-- a high item that is queued by instant b
abbrev pub is_urgent : Settings → ℕ → Item → Bool
is_urgent s b item = is_high item.priority && nat_le (came s item) b

-- ARINC 664 Part 7: the place of the item whose turn it is at b: the first urgent one, or the first of all if there is none
abbrev pub turn : Settings → ℕ → List Item → ℕ
turn s b items = unwrap_or (position (is_urgent s b) items) 0

-- the item whose turn it is, if the line is free from `free` on and `first ∷ rest` wait; profile: at one instant the ends
-- come first, then the arrivals, then the starts, so what is queued at the instant of the start takes part
abbrev pub in_turn : Settings → ℕ → Item → List Item → Item
in_turn s free first rest = slice_index_or (first ∷ rest) (turn s (max free (came s first)) (first ∷ rest)) first

-- profile: what becomes of x at b: it is discarded if it has waited longer than max_delay, and takes no line time; else it is
-- sent, and the line is free again after its line time
abbrev pub fate : Settings → ℕ → Item → Event
fate s b x = if nat_lt s.max_delay (b - x.stamp) then aging (record { item = x; at = b }) else sending (record { item = x; begin = b; end = b + cost_of s.speed x.size })

-- the next event: it lies at the first instant at which the line is free and the first of all has come
unfoldable pub next : Settings → ℕ → Item → List Item → Event
next s free first rest = fate s (max free (came s first)) (in_turn s free first rest)

-- the items that wait after an event
unfoldable pub others : Settings → ℕ → Item → List Item → List Item
others s free first rest = remove (first ∷ rest) (turn s (max free (came s first)) (first ∷ rest))

-- as many events as `count` and the items allow
abbrev pub serve : ℕ → Settings → ℕ → List Item → List Event
serve zero s free items = []
serve (suc count) s free [] = []
serve (suc count) s free (first ∷ rest) =
    next s free first rest ∷ serve count s (free_after (next s free first rest)) (others s free first rest)

-- all events of the items, whose stamps do not fall, if the line is free from `free` on
abbrev pub service : Settings → ℕ → List Item → List Event
service s free items = serve (length items) s free items

-- the events that lie before t
abbrev pub before : ℕ → List Event → List Event
before t events = filter (λ event. nat_lt (instant event) t) events

-- what is sent by these events, in order
abbrev pub sent_of : List Event → List Sent
sent_of [] = []
sent_of (sending s ∷ events) = s ∷ sent_of events
sent_of (aging a ∷ events) = sent_of events

-- what is discarded by these events, in order
abbrev pub aged_of : List Event → List Aged
aged_of [] = []
aged_of (sending s ∷ events) = aged_of events
aged_of (aging a ∷ events) = a ∷ aged_of events
