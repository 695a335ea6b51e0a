use Rattle.std.proofs.Common.{codes}
use Rattle.clap.specs.Words.{App, Text, new_app, with_rule}
use Rattle.afdx_arguments.specs.Commands.{path_rule, network_path_app}
use Rattle.afdx_arguments.proofs.CommandLemmas.{if_argument, if_rule}
use Rattle.afdx_arguments.proofs.network_command.with_path.Goals as goal

abbrev one_argument : Text → App
one_argument name = with_rule (new_app name) (path_rule (codes "NET"))

pub returns : goal.returns
unfolding network_path_app
returns c =
    let one = if_argument c.with_no_arguments.result c.path-network.result c.arg-command.result _ _ (c.with_no_arguments.ensures.app, c.with_no_arguments.ensures.local)
    c.path-network.ensures.rule c.path-network.ensures.local c.arg-command.ensures in
    record {
      app = if_rule c.with_argument.result (one_argument c.args.name.now) c.csv.result _ c.csv.ensures.rule (c.with_argument.ensures.app (one_argument c.args.name.now) one.0);
      local = c.with_argument.ensures.local one.1;
    }
