use Rattle.afdx_core.specs.Inner.Engine.{state_of}
use Rattle.afdx_core.proofs.Runs.{appended_run}
use Rattle.afdx_core.proofs.relay.Relayed.next_out_into.Goals as goal

pub invariant_of-self : goal.invariant_of-self
invariant_of-self g c = (
  c.next_out_into.ensures.kept,
  appended_run c.next_out_into.result (state_of c.self.inside.engine) (state_of c.next_out_into.new.self) c.args.port _ _ c.next_out_into.ensures.ok c.next_out_into.ensures.err c.self.invariant.1,
)
