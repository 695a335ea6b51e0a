-- How long a frame may stay at a port, and what its buffer must hold (profile).
use Rattle.std.specs.Prelude.{ℕ, ◌+◌, ◌-◌, ◌*◌, ◌/◌, nat_lt, ◌&&◌, Option, Some, None, if◌then◌else◌}
use Rattle.afdx_units.specs.declared.line.Speed.{Speed}
use Rattle.afdx_units.specs.Line.{tick_of}
use Rattle.afdx_load.specs.Load.{Load}
use Rattle.afdx_account.specs.Policing.{parts}
use Rattle.afdx_load.specs.declared.delays.Bounds.{Bounds}

-- the most nanoseconds from the arrival of a high frame to its end on the line, if there are high links: the latency, and, rounded down,
-- all that high links may ask for at once, which goes before it, and the low frame that the line had begun
abbrev pub high_bound : Load → Option ℕ
high_bound load = if nat_lt 0 load.highs then Some ((load.high_burst + parts * load.low_largest) / parts + load.latency) else None

-- the most nanoseconds of a low frame, if there are low links and the high links leave a part of the line: the latency, and, rounded down,
-- all that links may ask for at once, over that part
abbrev pub low_bound : Load → Option ℕ
low_bound load = if nat_lt 0 load.lows && nat_lt load.high_rate parts then Some (load.burst / (parts - load.high_rate) + load.latency) else None

-- the two bounds of a load, in ns
abbrev pub bounds_of : Load → Bounds
bounds_of load = record { high = high_bound load; low = low_bound load }

-- what may wait and be on the line at once, in parts of a nanosecond
abbrev pub backlog : Load → ℕ
backlog load = load.burst + parts * load.largest

-- the line time of so many bytes, in parts of a nanosecond
abbrev pub byte_time : Speed → ℕ → ℕ
byte_time speed bytes = parts * tick_of speed * bytes
