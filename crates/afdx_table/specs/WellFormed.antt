-- What is true of every table that is read: its rows are within the limits, and between its own ports.
use Rattle.std.specs.Prelude.{◌≡◌, ◌≢◌, ℕ, true, ◌<◌, ◌≤◌, ◌%◌, [], ◌∷◌, nat_eq, List, map, length, slice_index, Ok}
use Rattle.std.specs.List.{AllByRecursion, IsDistinct}
use Rattle.afdx_units.specs.Line.{least_size, greatest_size}
use Rattle.afdx_table.specs.declared.rows.PortRow.{PortRow}
use Rattle.afdx_table.specs.Link.{Link}
use Rattle.afdx_table.specs.Content.{Content}
use Rattle.afdx_table.specs.Ports.{has_port}
use Rattle.afdx_table.specs.Text.{table_of}

-- profile: a port within the limits, its buffer in bytes and its delay in nanoseconds
pub record IsPort (p : PortRow) : Type 0 where
  pub id_least : 1 ≤ p.id
  pub id_most : p.id ≤ 24
  pub buffer_most : p.buffer ≤ 16777216
  pub delay_least : 1000 ≤ p.max_delay
  pub delay_most : p.max_delay ≤ 500000000

-- each number is above those before it
abbrev pub Rises : List PortRow → Type 0
Rises [] = Unit {0}
Rises (p ∷ ps) = AllByRecursion (λ q. p.id < q.id) ps × Rises ps

-- the ports that a link leads to are ports, each named once, and none of them is the one at which it comes in
pub record AreTargets (ports : List PortRow) (from : ℕ) (to : List ℕ) : Type 0 where
  pub are_ports : AllByRecursion (λ p. has_port ports p ≡ true) to
  pub are_others : AllByRecursion (λ p. p ≢ from) to
  pub once : IsDistinct nat_eq to

-- profile, but for the numbers of links (ARINC 664 Part 7): a link within the limits, its jitter in nanoseconds, its size in bytes,
-- between ports of the table
pub record IsLink (ports : List PortRow) (l : Link) : Type 0 where
  pub id_most : l.id ≤ 65535
  pub jitter_most : l.jitter ≤ 10000000
  pub size_least : least_size ≤ l.max_size
  pub size_most : l.max_size ≤ greatest_size
  pub from_port : has_port ports l.from ≡ true
  pub leads_out : 0 < length l.to
  pub targets : AreTargets ports l.from l.to

-- profile, but for the constant (ARINC 664 Part 7): a table of at most 24 ports, by rising number, and of at most 4,096 links, each number
-- once; the latency in nanoseconds
pub record IsWellFormed (c : Content) : Type 0 where
  pub constant_length : length c.constant ≡ 4
  -- ARINC 664 Part 7: the two lowest bits of its first byte are set
  pub constant_first : slice_index c.constant 0 % 4 ≡ 3
  -- profile
  pub latency_most : c.latency ≤ 100000
  pub few_ports : length c.ports ≤ 24
  pub ports : AllByRecursion IsPort c.ports
  pub ports_rise : Rises c.ports
  pub few_links : length c.links ≤ 4096
  pub links : AllByRecursion (IsLink c.ports) c.links
  pub links_distinct : IsDistinct nat_eq (map (λ l. l.id) c.links)

-- every table of a text is well formed
abbrev pub TablesAreWellFormed : Type 0
TablesAreWellFormed = (bytes : List ℕ) (c : Content) → table_of bytes ≡ Ok c → IsWellFormed c
