use Rattle.std.proofs.Common.{codes, ap, ◌∙◌}
use Rattle.clap.specs.Words.{App, with_subcommand}
use Rattle.afdx_arguments.specs.Commands.{network_path_app, network_run_app}
use Rattle.afdx_arguments.proofs.CommandLemmas.{if_program}
use Rattle.afdx_arguments.proofs.network_command.with_runs.Goals as goal

pub returns : goal.returns
returns c =
    let jitter = network_path_app (codes "jitter") in
    let three = c.in_ok-program.ensures jitter c.jitter.ensures.app ∙ ap (λ (a : App). with_subcommand a jitter.top) c.in_ok-with_checks.ensures in
    if_program c.with_command-2.result c.in_ok-program.program _ network_run_app three (c.with_command-2.ensures network_run_app c.run.ensures.app)
