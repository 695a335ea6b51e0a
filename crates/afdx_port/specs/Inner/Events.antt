-- Events: over all items of a service, in parts, and of one item.
use Rattle.std.specs.Prelude.{ℕ, ◌+◌, ◌-◌, ◌<◌, ◌≤◌, ◌≡◌, Bool, List, ◌++◌, count_by}
use Rattle.afdx_units.specs.declared.line.Speed.{Speed}
use Rattle.afdx_units.specs.Line.{cost_of}
use Rattle.afdx_port.specs.declared.Settings.{Settings}
use Rattle.afdx_port.specs.declared.Item.{Item}
use Rattle.afdx_port.specs.declared.Sent.{Sent}
use Rattle.afdx_port.specs.Service.{Event, sending, item_of, fate, service, before, sent_of, aged_of}

-- each item has one event: of each kind of items there are as many events as items
abbrev pub EachHasOneEvent : Type 0
EachHasOneEvent = (s : Settings) (free : ℕ) (items : List Item) (kind : Item → Bool) → count_by (λ event. kind (item_of event)) (service s free items) ≡ count_by kind items

-- of events in two parts, what is sent is that of the first part and then that of the second
abbrev pub SentInParts : Type 0
SentInParts = (first second : List Event) → sent_of (first ++ second) ≡ sent_of first ++ sent_of second

-- of events in two parts, what is discarded is that of the first part and then that of the second
abbrev pub AgedInParts : Type 0
AgedInParts = (first second : List Event) → aged_of (first ++ second) ≡ aged_of first ++ aged_of second

-- what is sent before an instant is a prefix of what is sent before a later one, and of all that is sent
pub record SentGoesOn : Type 0 where
  pub until : (s : Settings) (t u : ℕ) (items : List Item) → t ≤ u
      → (later : List Sent) × (sent_of (before u (service s 0 items)) ≡ sent_of (before t (service s 0 items)) ++ later)
  pub in_the_end : (s : Settings) (t : ℕ) (items : List Item) → (later : List Sent) × (sent_of (service s 0 items) ≡ sent_of (before t (service s 0 items)) ++ later)

-- an item that has waited no longer than the greatest delay is sent
abbrev pub SentInTime : Type 0
SentInTime = (s : Settings) (b : ℕ) (x : Item) → b - x.stamp ≤ s.max_delay → fate s b x ≡ sending (record { item = x; begin = b; end = b + cost_of s.speed x.size })

-- sending an item takes time, whatever its size
abbrev pub SendingTakesTime : Type 0
SendingTakesTime = (speed : Speed) (size : ℕ) → 0 < cost_of speed size
