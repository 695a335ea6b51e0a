use Rattle.std.proofs.Common.{◌≡◌, map, take, string_bytes}
use Rattle.afdx_serve.specs.Networks.{names_of}
use Rattle.afdx_serve.proofs.network_get.names_of.Given as goal

abbrev pub invariant-loop-switch : goal.invariant-loop-switch
invariant-loop-switch l = map string_bytes l.names.items ≡ names_of (take l.switch-index l.switches)
