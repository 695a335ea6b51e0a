use Rattle.afdx_arguments.specs.Commands.{size_app, run_app}
use Rattle.afdx_arguments.proofs.CommandLemmas.{if_program}
use Rattle.afdx_arguments.proofs.command.with_run.Goals as goal

pub returns : goal.returns
returns c =
    if_program c.with_command-2.result c.in_ok-program.program _ run_app (c.in_ok-program.ensures size_app c.size.ensures.app) (c.with_command-2.ensures run_app c.run.ensures.app)
