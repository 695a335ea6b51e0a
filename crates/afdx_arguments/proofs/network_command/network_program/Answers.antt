use Rattle.std.proofs.Common.{codes}
use Rattle.afdx_arguments.specs.Commands.{network_paths_app, network_program}
use Rattle.afdx_arguments.proofs.CommandLemmas.{if_program}
use Rattle.afdx_arguments.proofs.network_command.network_program.Goals as goal

pub returns : goal.returns
unfolding network_program
returns c =
    let trace = network_paths_app (codes "trace") in
    if_program c.with_command.result c.in_ok-with_answers.field-0 _ trace c.in_ok-with_answers.ensures (c.with_command.ensures trace c.trace.ensures.app)
