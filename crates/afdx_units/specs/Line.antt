-- Sizes of frames, and the time that they take on a line.
use Rattle.std.specs.Prelude.{ℕ, ◌+◌, ◌*◌, Bool, true, false}
use Rattle.afdx_units.specs.declared.line.Priority.{Priority}
use Rattle.afdx_units.specs.declared.line.Priority.TheVariants.{High, Low}
use Rattle.afdx_units.specs.declared.line.Speed.{Speed}
use Rattle.afdx_units.specs.declared.line.Speed.TheVariants.{Ten, Hundred, Thousand}

-- profile: a capture leaves out the 4 bytes of the frame check sequence, which a frame's size counts
abbrev pub size_of : ℕ → ℕ
size_of captured = captured + 4

-- IEEE 802.3: the least size of a frame in bytes
abbrev pub least_size : ℕ
least_size = 64

-- IEEE 802.3: the greatest size of a frame in bytes
abbrev pub greatest_size : ℕ
greatest_size = 1518

-- IEEE 802.3: nanoseconds that the 8 bits of a byte take, at 10, at 100 and at 1000 Mbit/s
abbrev pub tick_of : Speed → ℕ
tick_of Ten = 800
tick_of Hundred = 80
tick_of Thousand = 8

-- IEEE 802.3: nanoseconds for which a frame occupies a line; 7 bytes of preamble, 1 of start
-- delimiter and 12 of gap to the next frame go with each
abbrev pub cost_of : Speed → ℕ → ℕ
cost_of speed size = (size + 20) * tick_of speed

-- ARINC 664 Part 7: the two priorities of an output port
abbrev pub is_high : Priority → Bool
is_high High = true
is_high Low = false
