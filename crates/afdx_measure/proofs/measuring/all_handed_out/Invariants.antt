use Rattle.std.proofs.Common.{◌≡◌, ℕ, ◌<◌, None}
use Rattle.afdx_core.specs.State.{next_at}
use Rattle.afdx_measure.proofs.measuring.all_handed_out.Given as goal

abbrev pub invariant-loop-port : goal.invariant-loop-port
invariant-loop-port g l = (l.port-items ≡ l.relayed.run.table.ports) × ((k : ℕ) → k < l.port-index → next_at l.relayed.run k ≡ None)
