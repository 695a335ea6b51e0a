use Rattle.afdx_core.specs.Inner.Engine.{run_of}
use Rattle.afdx_core.proofs.Runs.{advanced_run}
use Rattle.afdx_core.proofs.relay.Relay.advance.Goals as goal

pub invariant_of-self : goal.invariant_of-self
invariant_of-self g c = (
  c.advance.ensures.kept,
  c.advance.ensures.still_open,
  advanced_run c.advance.result (run_of c.self.inside.engine) (run_of c.advance.new.self) c.args.to c.advance.ensures.ok c.advance.ensures.err c.self.invariant.2,
)
