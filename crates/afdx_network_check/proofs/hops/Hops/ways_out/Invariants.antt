use Rattle.std.proofs.Common.{take}
use Rattle.std.specs.List.{AllZip}
use Rattle.afdx_network_check.specs.Ways.{IsWayOut}
use Rattle.afdx_network_check.proofs.hops.Hops.ways_out.Given as goal

abbrev pub invariant-loop-exit : goal.invariant-loop-exit
invariant-loop-exit l = AllZip (IsWayOut l.self) (take l.exit-index l.exits) l.ways.items
