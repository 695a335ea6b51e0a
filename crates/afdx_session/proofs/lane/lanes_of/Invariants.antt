use Rattle.std.proofs.Common.{take}
use Rattle.afdx_session.specs.Inner.View.{AreFreshLanes}
use Rattle.afdx_session.proofs.lane.lanes_of.Given as goal

abbrev pub invariant-loop-row : goal.invariant-loop-row
invariant-loop-row g l = AreFreshLanes (take l.row-index l.ports) l.lanes.items
