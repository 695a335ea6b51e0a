use Rattle.std.proofs.Common.{◌≡◌, drop}
use Rattle.std.specs.List.{list_any}
use Rattle.afdx_following.specs.Output.{has}
use Rattle.afdx_following.proofs.watched.is_seen.Given as goal

abbrev pub invariant-loop-output : goal.invariant-loop-output
invariant-loop-output g l = list_any (λ o. has l.frame o) l.outputs ≡ list_any (λ o. has l.frame o) (drop l.output-index l.outputs)
