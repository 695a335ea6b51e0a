-- The delays of what a port sent for a link (profile).
use Rattle.std.specs.Prelude.{◌≡◌, ℕ, ◌+◌, ◌-◌, ◌≤◌, ◌==◌, min, max, List, [], ◌∷◌, length, map, filter, Option, Some, None, All, Contains, MatchOption}
use Rattle.std.specs.List.{fold}
use Rattle.std.specs.Option.{option_map}
use Rattle.afdx_port.specs.declared.Sent.{Sent}
use Rattle.afdx_measure.specs.declared.delays.Delays.{Delays}
use Rattle.afdx_measure.specs.declared.delays.Range.{Range}

-- the delay of a copy: from the stamp of its frame to the instant from which the line is free again, in nanoseconds
abbrev pub delay_of : Sent → ℕ
delay_of x = x.end - x.item.stamp

-- the delays of a link's copies, in the order in which the port sent them
abbrev pub delays_of : ℕ → List Sent → List ℕ
delays_of link sent = map delay_of (filter (λ x. x.item.link == link) sent)

-- the least and the greatest of delays, if there are any
abbrev pub range_of : List ℕ → Option Range
range_of [] = None
range_of (n ∷ ns) = Some (record { least = fold min n ns; greatest = fold max n ns })

-- what is reported of delays: how many there are, and the least and the greatest
abbrev pub summary_of : List ℕ → Delays
summary_of ns = record { count = length ns; range = range_of ns }

-- the least and the greatest delay, with one delay more
abbrev pub widened : Option Range → ℕ → Range
widened None delay = record { least = delay; greatest = delay }
widened (Some r) delay = record { least = min r.least delay; greatest = max r.greatest delay }

-- what is reported with one delay more
abbrev pub with_delay : ℕ → Delays → Delays
with_delay delay d = record { count = d.count + 1; range = Some (widened d.range delay) }

-- the least of the delays of which this is reported, in ns
abbrev pub least_of : Delays → Option ℕ
least_of d = option_map (λ r. r.least) d.range

-- the greatest of the delays of which this is reported, in ns
abbrev pub greatest_of : Delays → Option ℕ
greatest_of d = option_map (λ r. r.greatest) d.range

-- ---- the law: each of the two is one of them, and none is less or greater

-- this is one of the numbers, and none is less
pub record IsLeast (ns : List ℕ) (least : ℕ) : Type 0 where
  pub is_one : Contains ns least
  pub none_below : All (λ n. least ≤ n) ns

-- this is one of the numbers, and none is greater
pub record IsGreatest (ns : List ℕ) (greatest : ℕ) : Type 0 where
  pub is_one : Contains ns greatest
  pub none_above : All (λ n. n ≤ greatest) ns

-- the least and the greatest are so; there are none if there are no delays
abbrev pub RangeIsOfDelays : Type 0
RangeIsOfDelays = (ns : List ℕ) → MatchOption (range_of ns) (ns ≡ []) (λ r. IsLeast ns r.least × IsGreatest ns r.greatest)
