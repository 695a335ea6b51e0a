-- What the links of a port may ask of its line (profile: load numbers, in whole numbers).
use Rattle.std.specs.Prelude.{ℕ, ◌+◌, ◌*◌, ◌/◌, Bool, not, List, [], ◌∷◌, filter, sum_by, count_by, max, Option, option_map}
use Rattle.afdx_units.specs.declared.bag.Bag.{Bag}
use Rattle.afdx_units.specs.declared.line.Speed.{Speed}
use Rattle.afdx_units.specs.declared.police.Police.{Police}
use Rattle.afdx_units.specs.declared.police.Police.TheVariants.{Byte, Frame}
use Rattle.afdx_units.specs.Line.{tick_of, cost_of, is_high}
use Rattle.afdx_units.specs.Time.{bag_ms, bag_ns}
use Rattle.afdx_account.specs.Policing.{Terms, terms_by, weight_by}
use Rattle.afdx_table.specs.Link.{Link, leads_to}
use Rattle.afdx_table.specs.Content.{Content, port_row}

-- ARINC 664 Part 7: a link has one of the two priorities
abbrev pub is_high_link : Link → Bool
is_high_link link = is_high link.priority

-- a link that is not of high priority
abbrev pub is_low_link : Link → Bool
is_low_link link = not (is_high_link link)

-- the links that lead to a port, each once
abbrev pub routed : ℕ → List Link → List Link
routed port links = filter (leads_to port) links

-- profile: the terms by which a link is policed, by the kind of its policing
abbrev pub terms_of : Link → Terms
terms_of link = terms_by link.police link.max_size link.bag link.jitter

-- profile: line time that a unit of a link's terms is worth, in parts of a nanosecond
abbrev pub weight_of : Speed → Link → ℕ
weight_of speed link = weight_by link.police link.max_size link.bag speed

-- profile: the parts of a line that a link asks for: by bytes Smax in each gap, where with its 20 bytes of overhead a frame of at least 64
-- is at most 21/16 of its size; by frames one in each gap, of Smax and 20 bytes
abbrev pub rate_by : Police → Speed → ℕ → Bag → ℕ
rate_by Byte speed max_size bag = 21 * tick_of speed * max_size * (128 / bag_ms bag)
rate_by Frame speed max_size bag = 16 * tick_of speed * (max_size + 20) * (128 / bag_ms bag)

-- profile: the parts of a line that a link asks for in the long run, in parts of a ns for each ns
abbrev pub rate_of : Speed → Link → ℕ
rate_of speed link = rate_by link.police speed link.max_size link.bag

-- profile: what a link may ask for at once, in parts of a nanosecond
abbrev pub burst_of : Speed → Link → ℕ
burst_of speed link = rate_of speed link * (bag_ns link.bag + link.jitter)

-- the line time of a link's longest frame, in nanoseconds
abbrev pub time_of : Speed → Link → ℕ
time_of speed link = cost_of speed link.max_size

-- the greatest of these numbers of links, 0 if there are none
abbrev pub greatest : (Link → ℕ) → List Link → ℕ
greatest f [] = 0
greatest f (link ∷ links) = max (f link) (greatest f links)

-- a load: how many links of each priority; the sums over all links and over the high ones; the line times of the
-- longest frames of all links and of the low ones; the nanoseconds from a frame's arrival until it is queued
pub record Load : Type 0 where
  pub highs : ℕ
  pub lows : ℕ
  pub rate : ℕ
  pub high_rate : ℕ
  pub burst : ℕ
  pub high_burst : ℕ
  pub largest : ℕ
  pub low_largest : ℕ
  pub latency : ℕ

-- the load of some links, each frame of which is queued at once
unfoldable pub links_load : Speed → List Link → Load
links_load speed links = record {
  highs = count_by is_high_link links;
  lows = count_by is_low_link links;
  rate = sum_by (rate_of speed) links;
  high_rate = sum_by (rate_of speed) (filter is_high_link links);
  burst = sum_by (burst_of speed) links;
  high_burst = sum_by (burst_of speed) (filter is_high_link links);
  largest = greatest (time_of speed) links;
  low_largest = greatest (time_of speed) (filter is_low_link links);
  latency = 0;
}

-- the load of the links that lead to a port of this speed and number, each frame of which is queued at once
abbrev pub asked_of : Speed → ℕ → List Link → Load
asked_of speed port links = links_load speed (routed port links)

-- the same load if a frame is queued one latency after its arrival
abbrev pub behind : ℕ → Load → Load
behind latency load = record load { latency = latency }

-- the load of a port at a switch of this latency
abbrev pub load_of : ℕ → Speed → ℕ → List Link → Load
load_of latency speed port links = behind latency (asked_of speed port links)

-- the load of the port of this number, if there is one
abbrev pub port_load : Content → ℕ → Option Load
port_load table port = option_map (λ row. load_of table.latency row.speed row.id table.links) (port_row table port)
