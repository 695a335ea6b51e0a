-- Instants of a capture and bandwidth allocation gaps, as numbers of nanoseconds.
use Rattle.std.specs.Prelude.{ℕ, ◌*◌, ◌<◌, min, nat_lt, Bool, false, Option, Some, None}
use Rattle.afdx_units.specs.declared.bag.Bag.{Bag}
use Rattle.afdx_units.specs.declared.bag.Bag.TheVariants.{Ms1, Ms2, Ms4, Ms8, Ms16, Ms32, Ms64, Ms128}

-- nanoseconds of a second
abbrev pub second : ℕ
second = 1000000000

-- pcap 2.4 keeps the seconds of an instant in 32 bits: instants lie below 2 ^ 32 seconds
abbrev pub stamp_end : ℕ
stamp_end = 4294967296000000000

-- the last instant that pcap can hold
abbrev pub last_instant : ℕ
last_instant = 4294967295999999999

-- profile: the last second that pcap can hold begins here; it is written, and never read
abbrev pub last_second : ℕ
last_second = 4294967295000000000

-- an instant that pcap can hold
abbrev pub IsInstant : ℕ → Type 0
IsInstant ns = ns < stamp_end

-- the earlier of two instants, each of which may be missing
abbrev pub earlier_of : Option ℕ → Option ℕ → Option ℕ
earlier_of None other = other
earlier_of (Some one) None = Some one
earlier_of (Some one) (Some other) = Some (min one other)

-- whether there is an instant that lies before this one
abbrev pub is_before : ℕ → Option ℕ → Bool
is_before end None = false
is_before end (Some instant) = nat_lt instant end

-- ARINC 664 Part 7: the gaps that a link may have, in milliseconds
abbrev pub bag_ms : Bag → ℕ
bag_ms Ms1 = 1
bag_ms Ms2 = 2
bag_ms Ms4 = 4
bag_ms Ms8 = 8
bag_ms Ms16 = 16
bag_ms Ms32 = 32
bag_ms Ms64 = 64
bag_ms Ms128 = 128

-- a gap in nanoseconds
abbrev pub bag_ns : Bag → ℕ
bag_ns bag = bag_ms bag * 1000000
