-- The limits of what is known of recordings (profile), in nanoseconds.
use Rattle.std.specs.Prelude.{ℕ}

-- the greatest least latency: that of tables
abbrev pub greatest_least : ℕ
greatest_least = 100000

-- the most by which stamps may be off: a second
abbrev pub greatest_tolerance : ℕ
greatest_tolerance = 1000000000
