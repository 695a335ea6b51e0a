use Rattle.std.proofs.Common.{codes, ap, ◌∙◌}
use Rattle.clap.specs.Words.{App, with_subcommand}
use Rattle.afdx_arguments.specs.Commands.{inputs_app, trace_app}
use Rattle.afdx_arguments.proofs.CommandLemmas.{if_program}
use Rattle.afdx_arguments.proofs.command.with_rows.Goals as goal

pub returns : goal.returns
returns c =
    let measure = inputs_app (codes "measure") in
    let survey = inputs_app (codes "survey") in
    let one = c.in_ok-program.ensures measure c.measure.ensures.app in
    let two = c.in_ok-program-2.ensures survey c.survey.ensures.app ∙ ap (λ (a : App). with_subcommand a survey.top) one in
    if_program c.with_command-3.result c.in_ok-program-2.program _ trace_app two (c.with_command-3.ensures trace_app c.trace.ensures.app)
