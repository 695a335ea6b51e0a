use Rattle.std.proofs.Common.{◌≡◌, ◌++◌, map, take, drop}
use Rattle.afdx_following.specs.Output.{paired_up_to}
use Rattle.afdx_following.proofs.watched.pair_all.Given as goal

abbrev pub invariant-loop-output : goal.invariant-loop-output
invariant-loop-output g l = l.outputs ≡ map (λ o. paired_up_to l.unknown o) (take l.output-index l.initial.outputs) ++ drop l.output-index l.initial.outputs
