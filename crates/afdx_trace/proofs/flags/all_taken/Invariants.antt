use Rattle.std.proofs.Common.{◌≡◌, length}
use Rattle.afdx_trace.proofs.Taking.{AreTakenBelow}
use Rattle.afdx_trace.proofs.flags.all_taken.Given as goal

abbrev pub invariant-loop-port : goal.invariant-loop-port
invariant-loop-port g l = record {
  long : length l.all.items ≡ l.port;
  each : AreTakenBelow l.done.run l.port l.all.items;
}
