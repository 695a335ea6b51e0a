use Rattle.std.proofs.Common.{◌≡◌, map, take}
use Rattle.afdx_serve.specs.NetworkMeasures.{unchecked_end}
use Rattle.afdx_serve.proofs.network_ends.ends_of_exits.Given as goal

abbrev pub invariant-loop-exit : goal.invariant-loop-exit
invariant-loop-exit l = l.ends.items ≡ map (unchecked_end l.network) (take l.exit-index l.exits)
