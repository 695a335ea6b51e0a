use Rattle.std.proofs.Common.{codes}
use Rattle.clap.specs.Words.{App, new_app, with_rule}
use Rattle.afdx_arguments.specs.Commands.{path_rule, check_app}
use Rattle.afdx_arguments.proofs.CommandLemmas.{if_argument, if_rule}
use Rattle.afdx_arguments.proofs.command.check.Goals as goal

abbrev one_argument : App
one_argument = with_rule (new_app (codes "check")) (path_rule (codes "TABLE"))

pub returns : goal.returns
unfolding check_app
returns c =
    let one = if_argument c.with_no_arguments.result c.path-table.result c.arg-command.result _ _ (c.with_no_arguments.ensures.app, c.with_no_arguments.ensures.local)
    c.path-table.ensures.rule c.path-table.ensures.local c.arg-command.ensures in
    record {
      app = if_rule c.with_argument.result one_argument c.csv.result _ c.csv.ensures.rule (c.with_argument.ensures.app one_argument one.0);
      local = c.with_argument.ensures.local one.1;
    }
