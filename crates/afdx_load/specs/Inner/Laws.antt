-- Laws over loads.
use Rattle.std.specs.Prelude.{◌≡◌, ◌↔◌, ℕ, ◌+◌, ◌-◌, ◌*◌, ◌/◌, ◌<◌, ◌≤◌, ◌&&◌, List, None, All, sum_by, if◌then◌else◌}
use Rattle.afdx_units.specs.declared.line.Speed.{Speed}
use Rattle.afdx_units.specs.Line.{least_size, tick_of, cost_of}
use Rattle.afdx_table.specs.declared.rows.PortRow.{PortRow}
use Rattle.afdx_table.specs.Link.{Link, leads_to}
use Rattle.afdx_table.specs.Content.{Content}
use Rattle.afdx_table.specs.WellFormed.{IsWellFormed}
use Rattle.afdx_load.specs.Load.{Load, is_high_link, terms_of, weight_of, rate_of, burst_of, asked_of, load_of}
use Rattle.afdx_account.specs.Policing.{parts}
use Rattle.afdx_load.specs.Accepted.{Carries, IsAccepted, fault_at, first_fault}

-- profile: the factor 21/16 of the rate of a link policed by bytes covers the 20 bytes that go with each frame exactly for frames of the least
-- size and more, and at that size there is nothing to spare
abbrev pub FactorCoversOverhead : Type 0
FactorCoversOverhead = (speed : Speed) →
    ((size : ℕ) → (16 * cost_of speed size ≤ 21 * tick_of speed * size) ↔ (least_size ≤ size))
    × (16 * cost_of speed least_size ≡ 21 * tick_of speed * least_size)

-- what a link asks for is what its account gives: its credit and its greatest level, each by what a unit is worth
abbrev pub AsksWhatItsAccountGives : Type 0
AsksWhatItsAccountGives = (speed : Speed) (link : Link) →
    (rate_of speed link ≡ weight_of speed link * (terms_of link).rate)
    × (burst_of speed link ≡ weight_of speed link * (terms_of link).cap)

-- each link asks for something
abbrev pub EachLinkAsks : Type 0
EachLinkAsks = (speed : Speed) (link : Link) → least_size ≤ link.max_size → 0 < rate_of speed link

-- each sum takes each link of the table that leads to the port once
abbrev pub SumsTakeEachLinkOnce : Type 0
SumsTakeEachLinkOnce = (latency : ℕ) (speed : Speed) (port : ℕ) (links : List Link) → let load = load_of latency speed port links in
    (load.rate ≡ sum_by (λ link. if leads_to port link then rate_of speed link else 0) links)
    × (load.burst ≡ sum_by (λ link. if leads_to port link then burst_of speed link else 0) links)
    × (load.high_rate ≡ sum_by (λ link. if leads_to port link && is_high_link link then rate_of speed link else 0) links)
    × (load.high_burst ≡ sum_by (λ link. if leads_to port link && is_high_link link then burst_of speed link else 0) links)

-- a port has links exactly if its longest frame takes time
abbrev pub LongestShowsLinks : Type 0
LongestShowsLinks = (speed : Speed) (port : ℕ) (links : List Link) → let load = asked_of speed port links in
    (0 < load.largest) ↔ (0 < load.highs + load.lows)

-- if the line can give the rate and there is a low link, the high links leave a part of the line
abbrev pub HighLinksLeaveAPart : Type 0
HighLinksLeaveAPart = (c : Content) (speed : Speed) (port : ℕ) → IsWellFormed c → let load = load_of c.latency speed port c.links in
    load.rate ≤ parts → 0 < load.lows → load.high_rate < parts

-- a port carries a load exactly if that load breaks no rule there
abbrev pub CarriesWithoutAFault : Type 0
CarriesWithoutAFault = (row : PortRow) (load : Load) → Carries row load ↔ (fault_at row load ≡ None)

-- a table is accepted exactly if it has no fault
abbrev pub AcceptedMeansNoFault : Type 0
AcceptedMeansNoFault = (c : Content) → IsAccepted c ↔ (first_fault c.latency c.links c.ports ≡ None)

-- in an accepted table each port keeps its two bounds
abbrev pub AcceptedKeepsBounds : Type 0
AcceptedKeepsBounds = (c : Content) → IsWellFormed c → IsAccepted c → All (λ row. let load = load_of c.latency row.speed row.id c.links in
    (0 < load.highs → (load.high_burst + parts * load.low_largest) / parts + c.latency ≤ row.max_delay)
    × (0 < load.lows → (load.high_rate < parts) × (load.burst / (parts - load.high_rate) + c.latency ≤ row.max_delay))) c.ports
