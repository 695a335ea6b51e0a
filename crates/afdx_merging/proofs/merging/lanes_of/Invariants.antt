use Rattle.std.proofs.Common.{◌≡◌, map, take}
use Rattle.afdx_merging.specs.Inner.Lanes.{fresh_lane}
use Rattle.afdx_merging.proofs.merging.lanes_of.Given as goal

abbrev pub invariant-loop-clock : goal.invariant-loop-clock
invariant-loop-clock g l = l.lanes.items ≡ map fresh_lane (take l.clock-index l.clocks)
