use Rattle.std.proofs.Common.{◌≡◌, drop}
use Rattle.afdx_units.specs.Time.{earlier_of}
use Rattle.afdx_merging.specs.Inner.Merging.{least_of}
use Rattle.afdx_merging.proofs.merging.least_of.Given as goal

abbrev pub invariant-loop-lane : goal.invariant-loop-lane
invariant-loop-lane g l = earlier_of l.least (least_of (drop l.lane-index l.lanes)) ≡ least_of l.lanes
