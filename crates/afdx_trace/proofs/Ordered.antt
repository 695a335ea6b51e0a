-- A port's events are in order.
use Rattle.std.proofs.Common.{ℕ, zero, suc, ◌+◌, ◌-◌, ◌<◌, ◌≤◌, max, nat_lt, Bool, true, false, cond, List, [], ◌∷◌, length, filter, arith}
use Rattle.std.specs.List.{AllByRecursion}
use Rattle.afdx_units.specs.Line.{cost_of}
use Rattle.afdx_port.specs.declared.Settings.{Settings}
use Rattle.afdx_port.specs.declared.Item.{Item}
use Rattle.afdx_port.specs.declared.Sent.{Sent}
use Rattle.afdx_port.specs.declared.Aged.{Aged}
use Rattle.afdx_port.specs.Service.{Event, sending, aging, instant, free_after, came, fate, next, others, in_turn, serve}
use Rattle.afdx_port.specs.Content.{done}
use Rattle.afdx_port.specs.Inner.Events.{SendingTakesTime}
use Rattle.afdx_trace.specs.Departures.{AreInOrder}
use Rattle.afdx_trace.specs.Inner.Laws.{EventsAreInOrder}

-- none lies before an instant
abbrev NoneBefore : ℕ → List Event → Type 0
NoneBefore t events = AllByRecursion (λ event. t ≤ instant event) events

none_before_earlier : (t u : ℕ) (events : List Event) → t ≤ u → NoneBefore u events → NoneBefore t events
none_before_earlier t u [] le late = tt
none_before_earlier t u (event ∷ events) le late = (let h = late.0 in omega (arith, h, le), none_before_earlier t u events le late.1)

none_at : (t u : ℕ) (events : List Event) → t < u → NoneBefore u events → AllByRecursion (λ event. t < instant event) events
none_at t u [] lt late = tt
none_at t u (event ∷ events) lt late = (let h = late.0 in omega (arith, h, lt), none_at t u events lt late.1)

-- an event, and those that lie no sooner than the line is free after it
event_first : SendingTakesTime → (s : Settings) (b : ℕ) (x : Item) (events : List Event) → NoneBefore (free_after (fate s b x)) events → AreInOrder events
    → AreInOrder (fate s b x ∷ events)
event_first takes_time s b x events late order = by (nat_lt s.max_delay (b - x.stamp)) late where
  discarded : Aged
  discarded = record { item = x; at = b }

  sent : Sent
  sent = record { item = x; begin = b; end = b + cost_of s.speed x.size }

  by : (old : Bool) → NoneBefore (free_after (cond old (aging discarded) (sending sent))) events → AreInOrder (cond old (aging discarded) (sending sent) ∷ events)
  by true late = (late, order)
  by false late = (none_at b (b + cost_of s.speed x.size) events (let some = takes_time s.speed x.size in omega (arith, some)) late, order)

-- where an event lies, and from when the line is free after it
lies_at : (s : Settings) (b : ℕ) (x : Item) → (b ≤ instant (fate s b x)) × (b ≤ free_after (fate s b x))
lies_at s b x = by (nat_lt s.max_delay (b - x.stamp)) where
  by : (old : Bool) → (b ≤ instant (cond old (aging (record { item = x; at = b })) (sending (record { item = x; begin = b; end = b + cost_of s.speed x.size }))))
      × (b ≤ free_after (cond old (aging (record { item = x; at = b })) (sending (record { item = x; begin = b; end = b + cost_of s.speed x.size }))))
  by true = (omega arith, omega arith)
  by false = (omega arith, omega arith)

served_late : (count : ℕ) (s : Settings) (free : ℕ) (items : List Item) → NoneBefore free (serve count s free items)
unfolding next
served_late zero s free items = tt
served_late (suc count) s free [] = tt
served_late (suc count) s free (first ∷ rest) =
    let b = max free (came s first) in
    let lies = lies_at s b (in_turn s free first rest) in
    let after = free_after (fate s b (in_turn s free first rest)) in (
      let h = lies.0 in omega (arith, h),
      none_before_earlier free after (serve count s after (others s free first rest)) (let h = lies.1 in omega (arith, h)) (served_late count s after (others s free first rest)),
    )

served_in_order : SendingTakesTime → (count : ℕ) (s : Settings) (free : ℕ) (items : List Item) → AreInOrder (serve count s free items)
unfolding next
served_in_order takes_time zero s free items = tt
served_in_order takes_time (suc count) s free [] = tt
served_in_order takes_time (suc count) s free (first ∷ rest) =
    let b = max free (came s first) in
    let after = free_after (fate s b (in_turn s free first rest)) in
    event_first takes_time s b (in_turn s free first rest) (serve count s after (others s free first rest))
    (served_late count s after (others s free first rest)) (served_in_order takes_time count s after (others s free first rest))

-- some of them are in order too
all_of_some : (P : Event → Type 0) (p : Event → Bool) (events : List Event) → AllByRecursion P events → AllByRecursion P (filter p events)
all_of_some P p [] all = tt
all_of_some P p (event ∷ events) all = by (p event) all.0 (all_of_some P p events all.1) where
  by : (kept : Bool) → P event → AllByRecursion P (filter p events) → AllByRecursion P (cond kept (event ∷ filter p events) (filter p events))
  by true first others = (first, others)
  by false first others = others

some_in_order : (p : Event → Bool) (events : List Event) → AreInOrder events → AreInOrder (filter p events)
some_in_order p [] order = tt
some_in_order p (sending x ∷ events) order =
    by (p (sending x)) (all_of_some (λ (event : Event). x.begin < instant event) p events order.0) (some_in_order p events order.1) where
      by : (kept : Bool) → AllByRecursion (λ event. x.begin < instant event) (filter p events) → AreInOrder (filter p events)
          → AreInOrder (cond kept (sending x ∷ filter p events) (filter p events))
      by true late others = (late, others)
      by false late others = others
some_in_order p (aging x ∷ events) order =
    by (p (aging x)) (all_of_some (λ (event : Event). x.at ≤ instant event) p events order.0) (some_in_order p events order.1) where
      by : (kept : Bool) → AllByRecursion (λ event. x.at ≤ instant event) (filter p events) → AreInOrder (filter p events)
          → AreInOrder (cond kept (aging x ∷ filter p events) (filter p events))
      by true late others = (late, others)
      by false late others = others

pub events_in_order : SendingTakesTime → EventsAreInOrder
events_in_order takes_time c = by c.finished where
  all : AreInOrder (serve (length c.admitted) c.settings 0 c.admitted)
  all = served_in_order takes_time (length c.admitted) c.settings 0 c.admitted

  by : (finished : Bool) → AreInOrder (done (record { settings = c.settings; admitted = c.admitted; horizon = c.horizon; finished = finished }))
  by true = all
  by false = some_in_order _ (serve (length c.admitted) c.settings 0 c.admitted) all
