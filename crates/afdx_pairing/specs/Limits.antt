-- What may pass between a frame that came and the record that left of it.
use Rattle.std.specs.Prelude.{ℕ, ◌+◌, ◌*◌, ◌-◌, nat_le, nat_lt, not, Bool, ◌&&◌, length}
use Rattle.std.specs.Str.{bytes_eq}
use Rattle.afdx_units.specs.Line.{size_of, tick_of, cost_of}
use Rattle.afdx_pcap.specs.Record.{Record}
use Rattle.afdx_pairing.specs.declared.limits.Limits.{Limits}

-- the instant at which the line is free again after a record, as the bounds count
abbrev pub left_at : Limits → Record → ℕ
left_at m left = left.stamp + m.gap * tick_of m.speed

-- the most from a frame's stamp to that instant, by the port's bound and the stamps
abbrev pub most_of : Limits → ℕ
most_of m = m.bound + m.tolerance

-- the soonest instant at which the line can be free again after a frame, as far as the stamps tell
abbrev pub soonest : Limits → Record → ℕ
soonest m came = (came.stamp + m.least + cost_of m.speed (size_of (length came.bytes))) - m.tolerance

-- a record left sooner than the least latency and the frame's line time after the frame came, whatever the stamps are off by
abbrev pub is_early : Limits → Record → Record → Bool
is_early m came left = nat_lt (left_at m left + m.tolerance) (came.stamp + m.least + cost_of m.speed (size_of (length came.bytes)))

-- a record that may be the frame's: it has its bytes, and left within its bounds
abbrev pub in_bound : Limits → Record → Record → Bool
in_bound m came left = bytes_eq came.bytes left.bytes && not (is_early m came left) && nat_le (left_at m left) (came.stamp + most_of m)

-- a record that has the frame's bytes, and left after the frame came by at most so many times the bound
abbrev pub came_within : Limits → ℕ → Record → Record → Bool
came_within m times came left =
    bytes_eq came.bytes left.bytes && nat_lt came.stamp (left_at m left) && nat_le (left_at m left) (came.stamp + times * most_of m)

-- a frame of which a record may be that leaves at an instant or later: it came at most twice the bound before
abbrev pub stays : Limits → ℕ → Record → Bool
stays m at came = nat_le at (came.stamp + 2 * most_of m)

-- a record left past the frame's bound
abbrev pub is_late : Limits → Record → Record → Bool
is_late m came left = nat_lt (came.stamp + most_of m) (left_at m left)
