use Rattle.std.proofs.Common.{codes}
use Rattle.clap.specs.Words.{App, with_rule}
use Rattle.afdx_arguments.specs.Commands.{flag_rule, text_rule, paths_app, run_app}
use Rattle.afdx_arguments.proofs.CommandLemmas.{if_rule}
use Rattle.afdx_arguments.proofs.command.run.Goals as goal

abbrev with_paths : App
with_paths = paths_app (codes "run")

abbrev with_verdict : App
with_verdict = with_rule with_paths (flag_rule (codes "verdict"))

abbrev with_fail_on : App
with_fail_on = with_rule with_verdict (text_rule (codes "fail-on"))

pub returns : goal.returns
unfolding run_app
returns c =
    let five = if_rule c.with_argument.result with_paths c.flag-verdict.result _ c.flag-verdict.ensures.rule (c.with_argument.ensures.app with_paths c.with_paths-command.ensures.app) in
    let six = if_rule c.with_argument-command.result with_verdict c.text_option-fail_on.result _ c.text_option-fail_on.ensures.rule
    (c.with_argument-command.ensures.app with_verdict five) in
    record {
      app = if_rule c.with_argument-2.result with_fail_on c.csv.result _ c.csv.ensures.rule (c.with_argument-2.ensures.app with_fail_on six);
      local = c.with_argument-2.ensures.local (c.with_argument-command.ensures.local (c.with_argument.ensures.local c.with_paths-command.ensures.local));
    }
