-- The ways that are reported of an accepted network, and what its runs deliver on them: what a line says of a link's least and greatest
-- delay is kept by each of its frames.
use Rattle.std.specs.Prelude.{◌≡◌, ℕ, ◌+◌, ◌≤◌, List, [], ◌∷◌, slice_get, Some, All}
use Rattle.std.specs.List.{AllZip}
use Rattle.afdx_pcap.specs.Record.{Record}
use Rattle.afdx_jitter.specs.declared.delays.Delays.{Delays}
use Rattle.afdx_wiring.specs.declared.layout.End.{End}
use Rattle.afdx_network_check.specs.declared.ways.Way.{Way}
use Rattle.afdx_network_check.specs.Net.{Network}
use Rattle.afdx_network_check.specs.Ways.{AreWaysOf}
use Rattle.afdx_network_check.specs.Outage.{up_of}
use Rattle.afdx_network.specs.Way.{Stage, Leg, last_stage, passed_at, leave, IsDelivered}
use Rattle.afdx_network.specs.Runs.{SwitchRun, Given}
use Rattle.afdx_network.specs.Ways.{node_of, IsWayIn}
use Rattle.afdx_network.specs.Laws.{IsAcceptedRun}

-- a stage is one of the link of this number, at this port
pub record IsAtPort (runs : List SwitchRun) (id : ℕ) (x : Stage) (e : End) : Type 0 where
  pub run : SwitchRun
  pub run_is : slice_get runs e.switch ≡ Some run
  pub node : x.node ≡ node_of run
  pub port : x.port.id ≡ e.port
  pub number : x.link.id ≡ id

-- all stages of a way, in its order
abbrev pub stages_of : Stage → List Leg → List Stage
stages_of x [] = x ∷ []
stages_of x (leg ∷ legs) = x ∷ stages_of leg.stage legs

-- a way of a run is the one of this line: it begins at the port where the link comes in there, and goes over the output ports, one by one
pub record IsReported (runs : List SwitchRun) (w : Way) (x : Stage) (legs : List Leg) : Type 0 where
  pub first : SwitchRun
  pub first_is : slice_get runs w.from.switch ≡ Some first
  pub node : x.node ≡ node_of first
  pub from : x.link.from ≡ w.from.port
  pub ports : AllZip (IsAtPort runs w.link) (stages_of x legs) w.ports.items

-- a frame has left no sooner than the least delay after it came, and no later than the greatest
pub record IsWithin (d : Delays) (came left : Record) : Type 0 where
  pub least : came.stamp + d.least ≤ left.stamp
  pub most : left.stamp ≤ came.stamp + d.most

-- the run has the way of the line, which delivers; and each frame that leaves at its end for the link has left within the delays of the
-- line after it came in
pub record KeepsReported (net : Network) (runs : List SwitchRun) (w : Way) : Type 0 where
  pub stage : Stage
  pub legs : List Leg
  pub way : IsWayIn net runs stage legs
  pub reported : IsReported runs w stage legs
  pub delivered : IsDelivered stage legs
  pub in_time : AllZip (IsWithin w.delays) (passed_at stage) (leave (last_stage stage legs))

-- in an accepted network, whatever the end systems send, each way that uses nothing that is down keeps the delays of its line
abbrev pub PrintedDelaysAreKept : Type 0
PrintedDelaysAreKept = (net : Network) (given : Given) (runs : List SwitchRun) → IsAcceptedRun net given runs → (ways : List Way) → AreWaysOf net ways
    → All (KeepsReported net runs) (up_of net.layout ways)
