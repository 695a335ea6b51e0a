use Rattle.std.proofs.Common.{◌≡◌, ◌++◌, drop}
use Rattle.afdx_trace.specs.Inner.Taken.{unflagged}
use Rattle.afdx_trace.proofs.flags.refusing.Given as goal

abbrev pub invariant-loop-port : goal.invariant-loop-port
invariant-loop-port g l = unflagged l.taken l.number l.to ≡ l.ports.items ++ unflagged l.taken l.number (drop l.port-index l.to)
