use Rattle.std.proofs.Common.{◌≡◌, length}
use Rattle.afdx_run_tests.proofs.network_runs.readers_of.Given as goal

abbrev pub invariant-loop-end : goal.invariant-loop-end
invariant-loop-end l = length l.readers.items ≡ l.end-index
