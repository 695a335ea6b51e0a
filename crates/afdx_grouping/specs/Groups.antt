-- The groups of a port's links by the ports at which they come in, what each of them can bring, and the lesser load that follows
-- (network calculus: grouping; profile).
use Rattle.std.specs.Prelude.{ℕ, ◌+◌, ◌*◌, ◌/◌, ◌==◌, ◌&&◌, Bool, Option, option_map, List, map, filter, sum_by}
use Rattle.afdx_units.specs.declared.line.Speed.{Speed}
use Rattle.afdx_units.specs.Line.{tick_of, cost_of}
use Rattle.afdx_account.specs.Policing.{parts}
use Rattle.afdx_serial.specs.Curves.{Straight, Curve}
use Rattle.afdx_serial.specs.Serial.{KnownLine}
use Rattle.afdx_table.specs.declared.rows.PortRow.{PortRow}
use Rattle.afdx_table.specs.Link.{Link, leads_to}
use Rattle.afdx_table.specs.Content.{Content}
use Rattle.afdx_load.specs.Load.{Load, is_high_link, rate_of, burst_of, greatest, load_of}
use Rattle.afdx_load.specs.Bounds.{bounds_of}
use Rattle.afdx_load.specs.declared.delays.Bounds.{Bounds}
use Rattle.afdx_grouping.specs.Burst.{least_burst}
use Rattle.afdx_grouping.specs.Scatter.{later}

-- ---- groups

-- what some links ask of a line: in parts of a nanosecond at once, and in each nanosecond; and the bytes of their largest frame, 0
-- if there are none
pub record Asked : Type 0 where
  pub burst : ℕ
  pub rate : ℕ
  pub largest : ℕ

-- what these links ask of the line of a port with this speed
abbrev pub asked_by : Speed → List Link → Asked
asked_by here links = record { burst = sum_by (burst_of here) links; rate = sum_by (rate_of here) links; largest = greatest (λ l. l.max_size) links }

-- what all links of a group ask, and the high ones
pub record Group : Type 0 where
  pub all : Asked
  pub high : Asked

-- the group of these links
abbrev pub group_of : Speed → List Link → Group
group_of here links = record { all = asked_by here links; high = asked_by here (filter is_high_link links) }

-- a link comes in at one port and leads to another
abbrev pub goes_over : (from to : ℕ) → Link → Bool
goes_over from to link = (link.from == from) && leads_to to link

-- the group of the links that come in at the first port and lead to the second
abbrev pub group_at : List Link → (from : ℕ) → PortRow → Group
group_at links from to = group_of to.speed (filter (goes_over from to.id) links)

-- ---- curves

-- profile: parts of a nanosecond of line time here that a nanosecond of a line there brings; the ticks divide each other
abbrev pub line_weight : (here there : Speed) → ℕ
line_weight here there = parts * tick_of here / tick_of there

-- what a group's links pay for: so much at once, and so much more in each ns
abbrev pub paid_by : Asked → Straight
paid_by a = record { burst = a.burst; rate = a.rate }

-- what a line brings: the largest frame and what stamps may lack at once, and a nanosecond in each; and so many parts beside
abbrev pub brought_by : (here : Speed) → (spare : ℕ) → Asked → KnownLine → Straight
brought_by here spare a line = record {
  burst = line_weight here line.speed * (cost_of line.speed a.largest + line.rounding) + spare;
  rate = line_weight here line.speed;
}

-- a group's curve: what its links pay for, and what the line brings if frames are known to come over it one after the other
abbrev pub curve_of : (here : Speed) → Option KnownLine → (spare : ℕ) → Asked → Curve
curve_of here line spare a = record { paid = paid_by a; brought = option_map (brought_by here spare a) line }

-- profile: a low frame waits for high ones that come after it, so that beside what the line brings the high links' burst is counted
abbrev pub all_curve : Speed → Option KnownLine → Group → Curve
all_curve here line g = curve_of here line g.high.burst g.all

-- the curve of a group's high links, which wait for no low frame that comes after them
abbrev pub high_curve : Speed → Option KnownLine → Group → Curve
high_curve here line g = curve_of here line 0 g.high

-- ---- the load of a port

-- the line at a port, if frames are known to come over it one after the other, to within so many nanoseconds
abbrev pub line_at : (rounding_at : ℕ → Option ℕ) → PortRow → Option KnownLine
line_at rounding_at from = option_map (λ rounding. record { speed = from.speed; rounding = rounding }) (rounding_at from.id)

-- the curves of a port's groups, one for each port at which links come in, if latencies differ by at most so many ns
abbrev pub all_curves : (scatter : ℕ) → Content → (ℕ → Option ℕ) → PortRow → List Curve
all_curves scatter t rounding_at to = map (λ from. later scatter (all_curve to.speed (line_at rounding_at from) (group_at t.links from.id to))) t.ports

-- the curves of the high links of these groups
abbrev pub high_curves : (scatter : ℕ) → Content → (ℕ → Option ℕ) → PortRow → List Curve
high_curves scatter t rounding_at to = map (λ from. later scatter (high_curve to.speed (line_at rounding_at from) (group_at t.links from.id to))) t.ports

-- profile: the port's load, of which all links and the high ones ask at once for the least bursts that are enough for their groups
abbrev pub lesser_load : (scatter : ℕ) → (ℕ → Option ℕ) → Content → PortRow → Load
lesser_load scatter rounding_at t to = record (load_of t.latency to.speed to.id t.links) {
  burst = least_burst parts (all_curves scatter t rounding_at to);
  high_burst = least_burst parts (high_curves scatter t rounding_at to);
}

-- the bounds of all ports by their lesser loads, in ns
abbrev pub lesser_bounds : (scatter : ℕ) → (ℕ → Option ℕ) → Content → List Bounds
lesser_bounds scatter rounding_at t = map (λ to. bounds_of (lesser_load scatter rounding_at t to)) t.ports
