use Rattle.std.proofs.Common.{◌≡◌, ◌++◌, map, take, drop}
use Rattle.afdx_following.specs.Output.{gone_on}
use Rattle.afdx_following.proofs.watched.go_on_all.Given as goal

abbrev pub invariant-loop-output : goal.invariant-loop-output
invariant-loop-output g l = l.outputs ≡ map (λ o. gone_on l.at o) (take l.output-index l.initial.outputs) ++ drop l.output-index l.initial.outputs
