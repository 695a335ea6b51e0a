use Rattle.std.proofs.Common.{◌<◌, take}
use Rattle.std.specs.Prelude.{All}
use Rattle.afdx_network.specs.Inner.Sites.{IsWithin}
use Rattle.afdx_network.proofs.windows.look_of.Given as goal

abbrev pub invariant-loop-wire : goal.invariant-loop-wire
invariant-loop-wire l = record { positive : 0 < l.look; least : All (IsWithin l.network l.look) (take l.wire-index l.wires) }
