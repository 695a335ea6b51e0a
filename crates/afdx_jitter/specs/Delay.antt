-- What a frame takes from one switch to the next, and what it asks of the jitter there.
use Rattle.std.specs.Prelude.{◌≡◌, ℕ, ◌+◌, ◌-◌, ◌/◌, ◌≤◌}
use Rattle.afdx_units.specs.declared.line.Speed.{Speed}
use Rattle.afdx_units.specs.Line.{least_size, cost_of}
use Rattle.afdx_account.specs.declared.frame.Frame.{Frame}
use Rattle.afdx_jitter.specs.declared.delays.Delays.{Delays}

-- profile: a hop from a frame's arrival at a switch to that at the next one: at least the latency, the least frame's line time and the
-- cable, and at most the port's bound, which has the latency in it, and the cable; in ns
abbrev pub hop_of : Speed → (latency bound cable : ℕ) → Delays
hop_of speed latency bound cable = record { least = latency + cost_of speed least_size + cable; most = bound + cable }

-- one part of a way and then another
abbrev pub joined : Delays → Delays → Delays
joined d e = record { least = d.least + e.least; most = d.most + e.most }

-- before the first hop
abbrev pub at_once : Delays
at_once = record { least = 0; most = 0 }

-- profile: if a link has the jitter `first` at a switch, `later` is enough for it after this part of its way
abbrev pub IsEnough : Delays → (first later : ℕ) → Type 0
IsEnough d first later = first + d.most ≤ later + d.least

-- the least jitter that is enough, in whole microseconds, which a table has
abbrev pub least_jitter : Delays → (first : ℕ) → ℕ
least_jitter d first = (first + d.most - d.least + 999) / 1000

-- a frame that came to a switch has come to the next one: over a port of this speed and bound, at a switch of this latency, and
-- over a cable of so many ns
pub record Crosses (speed : Speed) (latency bound cable : ℕ) (came gone : Frame) : Type 0 where
  pub same : gone.size ≡ came.size
  pub least : came.stamp + latency + cost_of speed came.size + cable ≤ gone.stamp
  pub most : gone.stamp ≤ came.stamp + bound + cable
