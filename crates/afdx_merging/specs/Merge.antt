-- Captures that are merged by the instants of their records (profile).
use Rattle.std.specs.Prelude.{◌≡◌, ◌⊎◌, ℕ, ◌+◌, ◌-◌, ◌<◌, ◌≤◌, ◌==◌, min, List, [], ◌∷◌, map, filter, length, Some, slice_get}
use Rattle.std.specs.List.{AllByRecursion}
use Rattle.afdx_units.specs.Time.{last_instant}
use Rattle.afdx_pcap.specs.Record.{Record}
use Rattle.afdx_pairing.specs.Events.{Numbered, numbered_of}
use Rattle.afdx_merging.specs.declared.clock.Clock.{Clock}

-- a stamp by a clock
abbrev pub moved : Clock → ℕ → ℕ
moved c stamp = min ((stamp + c.later) - c.sooner) last_instant

-- the clock of all captures: stamps are as they are
abbrev pub same_clock : Clock
same_clock = record { later = 0; sooner = 0; delay = 0 }

-- the instant by which a record of this stamp by the clock is in order with those of other captures
abbrev pub due_at : Clock → ℕ → ℕ
due_at c stamp = stamp + c.delay

-- a capture's records by its clock, numbered from this number on
abbrev pub numbered_from : ℕ → Clock → List Record → List Numbered
numbered_from n c [] = []
numbered_from n c (r ∷ rs) = numbered_of n (moved c r.stamp) r ∷ numbered_from (n + 1) c rs

-- a record, the place of its capture, and the instant by which it is in order
pub record Arrival : Type 0 where
  pub place : ℕ
  pub due : ℕ
  pub head : Numbered

-- a record of the capture at a place, by that capture's clock
abbrev pub arrival_at : ℕ → Clock → Numbered → Arrival
arrival_at place c n = record { place = place; due = due_at c n.frame.stamp; head = n }

-- the arrivals of the capture at a place
abbrev pub at_place : ℕ → List Arrival → List Arrival
at_place place arrivals = filter (λ a. a.place == place) arrivals

-- one arrival comes by another: sooner by the instant, or at the same one and at no later place
abbrev pub IsBy : Arrival → Arrival → Type 0
IsBy a b = (a.due < b.due) ⊎ ((a.due ≡ b.due) × (a.place ≤ b.place))

-- these arrivals come one by the other
abbrev pub AreInOrder : List Arrival → Type 0
AreInOrder [] = Unit {0}
AreInOrder (a ∷ arrivals) = AllByRecursion (IsBy a) arrivals × AreInOrder arrivals

-- all records of captures by their clocks: those of each in their order, numbered from 1, and all by their instants
pub record IsMergeOf (clocks : List Clock) (captures : List (List Record)) (arrivals : List Arrival) : Type 0 where
  pub many : length captures ≡ length clocks
  pub each : (place : ℕ) (c : Clock) (rs : List Record) → slice_get clocks place ≡ Some c → slice_get captures place ≡ Some rs
      → at_place place arrivals ≡ map (arrival_at place c) (numbered_from 1 c rs)
  pub within : AllByRecursion (λ a. a.place < length clocks) arrivals
  pub in_order : AreInOrder arrivals

-- an arrival is by its clock, and comes after all of these
pub record IsAfter (clocks : List Clock) (arrivals : List Arrival) (a : Arrival) : Type 0 where
  pub clock : Clock
  pub at : slice_get clocks a.place ≡ Some clock
  pub due : a.due ≡ due_at clock a.head.frame.stamp
  pub after : AllByRecursion (λ b. IsBy b a) arrivals
