use Rattle.std.proofs.Common.{ap, ◌∙◌}
use Rattle.afdx_core.specs.State.{State}
use Rattle.afdx_core.specs.Inner.Engine.{run_of}
use Rattle.afdx_core.proofs.Runs.{none_aged}
use Rattle.afdx_core.proofs.switch.Switch.aged.Goals as goal

pub returns-clause-none : goal.returns-clause-none
returns-clause-none g c = λ is.
    c.aged.ensures
    ∙ none_aged c.accepted_tables_isolate.ensures (run_of c.self.inside.engine) c.self.invariant.2 c.know_the_table.ensures
    (c.self.invariant.0.accepted (ap (λ (s : State). s.accepted) c.self.view_is ∙ is)) c.args.port
