use Rattle.std.proofs.Common.{ap, ◌∙◌}
use Rattle.clap.specs.Words.{App, with_subcommand}
use Rattle.afdx_arguments.specs.Commands.{alone_app, check_app}
use Rattle.afdx_arguments.proofs.CommandLemmas.{if_program}
use Rattle.afdx_arguments.proofs.command.with_checks.Goals as goal

pub returns : goal.returns
returns c =
    let one = c.in_ok-program.ensures alone_app c.alone.ensures.app ∙ ap (λ (a : App). with_subcommand a alone_app.top) c.in_ok-bare_program.ensures in
    if_program c.with_command-2.result c.in_ok-program.program _ check_app one (c.with_command-2.ensures check_app c.check.ensures.app)
