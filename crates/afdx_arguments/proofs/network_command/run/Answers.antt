use Rattle.std.proofs.Common.{codes}
use Rattle.clap.specs.Words.{App}
use Rattle.afdx_arguments.specs.Commands.{network_paths_app, network_run_app}
use Rattle.afdx_arguments.proofs.CommandLemmas.{if_rule}
use Rattle.afdx_arguments.proofs.network_command.run.Goals as goal

pub returns : goal.returns
unfolding network_run_app
returns c =
    let files : App = network_paths_app (codes "run") in
    record {
      app = if_rule c.with_argument.result files c.csv.result _ c.csv.ensures.rule (c.with_argument.ensures.app files c.with_paths-command.ensures.app);
      local = c.with_argument.ensures.local c.with_paths-command.ensures.local;
    }
