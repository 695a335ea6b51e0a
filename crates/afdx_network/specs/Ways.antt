-- The ways in a network's run: each begins at a row that an end system's port feeds, and goes on over the wires of the file.
use Rattle.std.specs.Prelude.{◌≡◌, true, false, List, [], ◌∷◌, slice_get, Some, Contains}
use Rattle.afdx_table.specs.Link.{leads_to}
use Rattle.afdx_wiring.specs.declared.layout.Wire.{Wire}
use Rattle.afdx_network_check.specs.Net.{Network, Row, ingress, wire_to, IsSource, least_at, bound_at}
use Rattle.afdx_network.specs.Way.{Node, Stage, Leg}
use Rattle.afdx_network.specs.Runs.{SwitchRun}

-- a switch of the network: what was read of the texts that came in, and the records that its captures are the texts of
abbrev pub node_of : SwitchRun → Node
node_of run = record { table = run.table; read = run.isolated.read; out = run.isolated.out }

-- a stage is a row of a switch and a port that it leads to, with the switch's least time and the row's bound at that port
pub record IsStageAt (net : Network) (runs : List SwitchRun) (r : Row) (x : Stage) : Type 0 where
  pub run : SwitchRun
  pub run_is : slice_get runs r.switch ≡ Some run
  pub node : x.node ≡ node_of run
  pub link : x.link ≡ r.link
  pub known : Contains run.table.links r.link
  pub has : Contains run.table.ports x.port
  pub leads : leads_to x.port.id r.link ≡ true
  pub least_is : x.least ≡ least_at net r.switch run.table
  pub bound_is : bound_at net r x.port ≡ Some x.bound

-- a way goes on from a stage's port over a wire, which is not down, to the next switch's row of the link
pub record GoesOver (net : Network) (r : Row) (x : Stage) (next : Row) (leg : Leg) : Type 0 where
  pub wire : Wire
  pub wire_is : wire_to net (ingress next) ≡ Some wire
  pub up : wire.down ≡ false
  pub start : wire.from ≡ record { switch = r.switch; port = x.port.id }
  pub cable : leg.cable ≡ wire.delay
  pub number : next.link.id ≡ r.link.id

-- the stages of a way from this row on, each at the row that the wire before it goes to
abbrev pub IsWayFrom : Network → List SwitchRun → Row → Stage → List Leg → Type 0
IsWayFrom net runs r x [] = IsStageAt net runs r x
IsWayFrom net runs r x (leg ∷ legs) = IsStageAt net runs r x × (next : Row) × GoesOver net r x next leg × IsWayFrom net runs next leg.stage legs

-- a way, from the row that an end system feeds on
abbrev pub IsWayIn : Network → List SwitchRun → Stage → List Leg → Type 0
IsWayIn net runs x legs = (r : Row) × IsSource net r × IsWayFrom net runs r x legs
