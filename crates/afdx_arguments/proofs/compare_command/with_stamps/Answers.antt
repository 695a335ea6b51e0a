use Rattle.std.proofs.Common.{codes}
use Rattle.clap.specs.Words.{App, with_rule}
use Rattle.afdx_arguments.specs.Commands.{optional_rule, text_rule}
use Rattle.afdx_arguments.proofs.CommandLemmas.{if_rule}
use Rattle.afdx_arguments.proofs.compare_command.with_stamps.Goals as goal

abbrev with_least : App → App
with_least app = with_rule app (optional_rule (codes "least-latency"))

abbrev with_tolerance : App → App
with_tolerance app = with_rule (with_least app) (optional_rule (codes "tolerance"))

abbrev with_which : App → App
with_which app = with_rule (with_tolerance app) (text_rule (codes "stamps"))

pub returns : goal.returns
returns c = record {
  app = λ app is.
      let one = if_rule c.with_argument.result app c.optional_number-least.result _ c.optional_number-least.ensures.rule (c.with_argument.ensures.app app is) in
      let two = if_rule c.with_argument-command.result (with_least app) c.optional_number-tolerance.result _ c.optional_number-tolerance.ensures.rule
      (c.with_argument-command.ensures.app (with_least app) one) in
      let three = if_rule c.with_argument-2.result (with_tolerance app) c.text_option-stamps.result _ c.text_option-stamps.ensures.rule
      (c.with_argument-2.ensures.app (with_tolerance app) two) in
      if_rule c.with_argument-3.result (with_which app) c.text_option-offset.result _ c.text_option-offset.ensures.rule (c.with_argument-3.ensures.app (with_which app) three);
  local = λ is. c.with_argument-3.ensures.local (c.with_argument-2.ensures.local (c.with_argument-command.ensures.local (c.with_argument.ensures.local is)));
}
