use Rattle.std.proofs.Common.{◌≡◌}
use Rattle.afdx_following.proofs.Paired.{with_pairs}
use Rattle.afdx_following.proofs.output.Output.pair.Given as goal

abbrev pub invariant-loop : goal.invariant-loop
invariant-loop g l = l.self ≡ with_pairs l.counter l.initial.self
