use Rattle.std.proofs.Common.{sym, subst}
use Rattle.afdx_following.specs.Watched.{Watched}
use Rattle.afdx_following.specs.Inner.InStep.{IsInStep}
use Rattle.afdx_following.proofs.InStep.{first_in_step}
use Rattle.afdx_following.proofs.following.Following.new.Goals as goal

pub invariant_of-result : goal.invariant_of-result
invariant_of-result g c = λ begun.
    subst (λ (f : Watched). IsInStep f) (sym c.new.ensures) (first_in_step c.args.account c.args.tolerance c.args.since c.args.outputs.items c.requires.tolerance c.requires.fresh)
