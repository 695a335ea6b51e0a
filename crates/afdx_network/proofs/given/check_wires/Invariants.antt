use Rattle.std.proofs.Common.{◌≡◌, Some, take}
use Rattle.std.specs.Prelude.{All}
use Rattle.afdx_network_check.specs.Net.{wire_to}
use Rattle.afdx_network.proofs.given.check_wires.Given as goal

abbrev pub invariant-loop-wire : goal.invariant-loop-wire
invariant-loop-wire l = All (λ w. wire_to l.network w.to ≡ Some w) (take l.wire-index l.wires)
