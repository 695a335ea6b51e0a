use Rattle.std.proofs.Common.{◌≡◌, ◌++◌, map, take, drop}
use Rattle.afdx_following.specs.Output.{with_end}
use Rattle.afdx_following.proofs.watched.end_all.Given as goal

abbrev pub invariant-loop-output : goal.invariant-loop-output
invariant-loop-output g l = l.outputs ≡ map (λ o. with_end l.last o) (take l.output-index l.initial.outputs) ++ drop l.output-index l.initial.outputs
