-- What a network's tables must agree on, and that the jitters are enough; with no order of cases.
use Rattle.std.specs.Prelude.{◌≡◌, ℕ, ◌≤◌, List, Some, All, Contains}
use Rattle.afdx_table.specs.declared.rows.PortRow.{PortRow}
use Rattle.afdx_table.specs.Content.{Content}
use Rattle.std.specs.Prelude.{slice_get}
use Rattle.afdx_load.specs.Accepted.{IsAccepted}
use Rattle.afdx_grouping.specs.Scatter.{IsAcceptedWith}
use Rattle.afdx_jitter.specs.declared.delays.Delays.{Delays}
use Rattle.afdx_jitter.specs.Delay.{IsEnough}
use Rattle.afdx_wiring.specs.declared.layout.Wire.{Wire}
use Rattle.afdx_network_check.specs.Net.{Network, Row, Back, port_at, row_at, rows_of, rows_on, IsSource, IsWayBack, source_of, stated_least, scatter_at, AreDelays}

-- both ends of a wire are ports, of one speed (IEEE 802.3), at switches of one constant field (ARINC 664 Part 7)
pub record Joins (net : Network) (w : Wire) : Type 0 where
  pub here : Content
  pub there : Content
  pub start : PortRow
  pub goal : PortRow
  pub here_is : slice_get net.tables w.from.switch ≡ Some here
  pub there_is : slice_get net.tables w.to.switch ≡ Some there
  pub start_is : port_at net w.from ≡ Some start
  pub goal_is : port_at net w.to ≡ Some goal
  pub constant : there.constant ≡ here.constant
  pub speed : goal.speed ≡ start.speed

-- ARINC 664 Part 7: a virtual link has one gap and one greatest size; profile: and one kind of policing
pub record GoesOn (net : Network) (w : Wire) (r : Row) : Type 0 where
  pub next : Row
  pub next_is : row_at net w.to.switch r.link.id ≡ Some next
  pub from_port : next.link.from ≡ w.to.port
  pub size : next.link.max_size ≡ r.link.max_size
  pub bag : next.link.bag ≡ r.link.bag
  pub police : next.link.police ≡ r.link.police

-- ARINC 664 Part 7: a virtual link has one source. Each row is fed by one end system's port at last, and no two rows of one number by two
pub record FitsTogether (net : Network) : Type 0 where
  pub wires : All (Joins net) net.layout.wires
  pub links : All (λ w. All (GoesOn net w) (rows_on net w)) net.layout.wires
  pub sources : All (λ r. (backs : List Back) × IsWayBack net r backs) (rows_of net)
  pub once : (r s : Row) → Contains (rows_of net) r → Contains (rows_of net) s → IsSource net r → IsSource net s → r.link.id ≡ s.link.id → r ≡ s

-- the jitter of each row is enough for the whole way to it
pub record HasJitters (net : Network) : Type 0 where
  pub enough : (r : Row) (backs : List Back) (d : Delays) → Contains (rows_of net) r → IsWayBack net r backs → AreDelays net backs d
      → IsEnough d (source_of r backs).link.jitter r.link.jitter

-- the least time that a switch is said to take is at most its table's latency, and the table is accepted with latencies that may differ so much
pub record FitsSwitch (net : Network) (switch : ℕ) (t : Content) : Type 0 where
  pub latency : stated_least net switch ≤ t.latency
  pub accepted : IsAcceptedWith (scatter_at net switch t) t

-- the table of each switch of a network fits its latencies
abbrev pub FitSwitches : Network → Type 0
FitSwitches net = (switch : ℕ) (t : Content) → slice_get net.tables switch ≡ Some t → FitsSwitch net switch t

-- the tables fit together, each is accepted, and so with the latencies of its switch, and the jitters are enough
pub record IsAcceptedNetwork (net : Network) : Type 0 where
  pub fits : FitsTogether net
  pub loads : All IsAccepted net.tables
  pub switches : FitSwitches net
  pub jitters : HasJitters net
