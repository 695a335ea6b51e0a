use Rattle.std.proofs.Common.{codes, ap, ◌∙◌}
use Rattle.clap.specs.Words.{App, with_subcommand}
use Rattle.afdx_arguments.specs.Commands.{network_inputs_app}
use Rattle.afdx_arguments.proofs.CommandLemmas.{if_program}
use Rattle.afdx_arguments.proofs.network_command.with_answers.Goals as goal

pub returns : goal.returns
returns c =
    let measure = network_inputs_app (codes "measure") in
    let survey = network_inputs_app (codes "survey") in
    let five = c.in_ok-program.ensures measure c.measure.ensures.app ∙ ap (λ (a : App). with_subcommand a measure.top) c.in_ok-with_runs.ensures in
    if_program c.with_command-2.result c.in_ok-program.program _ survey five (c.with_command-2.ensures survey c.survey.ensures.app)
