use Rattle.std.proofs.Common.{IfOk, subst}
use Rattle.afdx_core.specs.State.{State}
use Rattle.afdx_core.specs.Held.{IsNext}
use Rattle.afdx_core.specs.Inner.Engine.{state_of}
use Rattle.afdx_core.proofs.Runs.{handed_run}
use Rattle.afdx_core.proofs.relay.Relayed.next_out.Goals as goal

pub returns-clause-ok : goal.returns-clause-ok
returns-clause-ok g c = subst (λ (old : State). IfOk c.next_out.result (λ out. IsNext old (state_of c.next_out.new.self) c.args.port out)) c.self.view_is c.next_out.ensures.ok

pub invariant_of-self : goal.invariant_of-self
invariant_of-self g c = (
  c.next_out.ensures.kept,
  handed_run c.next_out.result (state_of c.self.inside.engine) (state_of c.next_out.new.self) c.args.port c.next_out.ensures.ok c.next_out.ensures.err c.self.invariant.1,
)
