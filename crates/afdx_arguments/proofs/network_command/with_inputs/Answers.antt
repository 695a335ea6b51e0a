use Rattle.std.proofs.Common.{codes}
use Rattle.clap.specs.Words.{App, Text, new_app, with_rule}
use Rattle.afdx_arguments.specs.Commands.{flag_rule, path_rule, network_inputs_app}
use Rattle.afdx_arguments.proofs.CommandLemmas.{if_argument, if_rule}
use Rattle.afdx_arguments.proofs.network_command.with_inputs.Goals as goal

abbrev one_argument : Text → App
one_argument name = with_rule (new_app name) (path_rule (codes "NET"))

abbrev two_arguments : Text → App
two_arguments name = with_rule (one_argument name) (path_rule (codes "IN"))

abbrev three_arguments : Text → App
three_arguments name = with_rule (two_arguments name) (flag_rule (codes "unchecked"))

pub returns : goal.returns
unfolding network_inputs_app
returns c =
    let name = c.args.name.now in
    let one = if_argument c.with_no_arguments.result c.path-network.result c.arg-command.result _ _ (c.with_no_arguments.ensures.app, c.with_no_arguments.ensures.local)
    c.path-network.ensures.rule c.path-network.ensures.local c.arg-command.ensures in
    let two = if_rule c.with_argument.result (one_argument name) c.path-input.result _ c.path-input.ensures.rule (c.with_argument.ensures.app (one_argument name) one.0) in
    let three = if_rule c.with_argument-command.result (two_arguments name) c.flag-unchecked.result _ c.flag-unchecked.ensures.rule
    (c.with_argument-command.ensures.app (two_arguments name) two) in
    record {
      app = if_rule c.with_argument-2.result (three_arguments name) c.csv.result _ c.csv.ensures.rule (c.with_argument-2.ensures.app (three_arguments name) three);
      local = c.with_argument-2.ensures.local (c.with_argument-command.ensures.local (c.with_argument.ensures.local one.1));
    }
