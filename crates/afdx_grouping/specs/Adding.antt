-- A group with one more link, as the code adds it.
use Rattle.std.specs.Prelude.{ℕ, ◌+◌, ◌*◌, ◌^◌, ◌≤◌, max, if◌then◌else◌}
use Rattle.afdx_units.specs.declared.line.Speed.{Speed}
use Rattle.afdx_table.specs.declared.rows.PortRow.{PortRow}
use Rattle.afdx_table.specs.Link.{Link}
use Rattle.afdx_load.specs.Load.{is_high_link, rate_of, burst_of}
use Rattle.afdx_grouping.specs.Groups.{Asked, Group, goes_over}

-- what a group's links ask, with one more link
abbrev pub asked_with : Speed → Link → Asked → Asked
asked_with here l a = record { burst = a.burst + burst_of here l; rate = a.rate + rate_of here l; largest = max a.largest l.max_size }

-- what the high links of a group ask, with one more link if it is a high one
abbrev pub high_with : Speed → Link → Asked → Asked
high_with here l a = if is_high_link l then asked_with here l a else a

-- a group with one more link
abbrev pub group_with : Speed → Link → Group → Group
group_with here l g = record { all = asked_with here l g.all; high = high_with here l g.high }

-- the group with one more link if it comes in at the one port and leads to the other
abbrev pub group_added : (from : ℕ) → PortRow → Link → Group → Group
group_added from to l g = if goes_over from to.id l then group_with to.speed l g else g

-- the sums over so many links are small
pub record IsSmall (links : ℕ) (g : Group) : Type 0 where
  pub all_burst : g.all.burst ≤ links * 2 ^ 60
  pub all_rate : g.all.rate ≤ links * 2 ^ 32
  pub high_burst : g.high.burst ≤ links * 2 ^ 60
  pub high_rate : g.high.rate ≤ links * 2 ^ 32
