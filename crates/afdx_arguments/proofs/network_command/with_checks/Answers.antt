use Rattle.std.proofs.Common.{ap, codes, ◌∙◌}
use Rattle.clap.specs.Words.{App, with_subcommand}
use Rattle.afdx_arguments.specs.Commands.{network_path_app}
use Rattle.afdx_arguments.proofs.CommandLemmas.{if_program}
use Rattle.afdx_arguments.proofs.network_command.with_checks.Goals as goal

pub returns : goal.returns
returns c =
    let check = network_path_app (codes "check") in
    let size = network_path_app (codes "size") in
    let one = c.in_ok-program.ensures check c.check.ensures.app ∙ ap (λ (a : App). with_subcommand a check.top) c.in_ok-bare_network.ensures in
    if_program c.with_command-2.result c.in_ok-program.program _ size one (c.with_command-2.ensures size c.size.ensures.app)
