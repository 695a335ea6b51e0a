use Rattle.std.proofs.Common.{codes}
use Rattle.clap.specs.Words.{App, with_rule}
use Rattle.afdx_arguments.specs.Commands.{flag_rule, optional_rule}
use Rattle.afdx_arguments.proofs.CommandLemmas.{if_rule}
use Rattle.afdx_arguments.proofs.compare_command.with_span.Goals as goal

abbrev with_rest : App → App
with_rest app = with_rule app (flag_rule (codes "rest"))

abbrev with_start : App → App
with_start app = with_rule (with_rest app) (optional_rule (codes "from"))

pub returns : goal.returns
returns c = record {
  app = λ app is.
      let one = if_rule c.with_argument.result app c.flag-rest.result _ c.flag-rest.ensures.rule (c.with_argument.ensures.app app is) in
      let two = if_rule c.with_argument-2.result (with_rest app) c.optional_number-from.result _ c.optional_number-from.ensures.rule (c.with_argument-2.ensures.app (with_rest app) one) in
      if_rule c.with_argument-3.result (with_start app) c.optional_number-until.result _ c.optional_number-until.ensures.rule (c.with_argument-3.ensures.app (with_start app) two);
  local = λ is. c.with_argument-3.ensures.local (c.with_argument-2.ensures.local (c.with_argument.ensures.local is));
}
