use Rattle.std.proofs.Common.{◌≡◌, length}
use Rattle.afdx_run_tests.proofs.network_runs.files_of.Given as goal

abbrev pub invariant-loop : goal.invariant-loop
invariant-loop l = length l.files.items ≡ l.index
