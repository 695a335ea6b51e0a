use Rattle.std.proofs.Common.{◌≡◌, drop}
use Rattle.std.specs.List.{list_all}
use Rattle.afdx_following.specs.Output.{is_over}
use Rattle.afdx_following.proofs.watched.are_over.Given as goal

abbrev pub invariant-loop-output : goal.invariant-loop-output
invariant-loop-output g l = list_all (λ o. is_over l.at l.frame o) l.outputs ≡ list_all (λ o. is_over l.at l.frame o) (drop l.output-index l.outputs)
