use Rattle.std.proofs.Common.{codes}
use Rattle.clap.specs.Words.{App, new_app, with_rule}
use Rattle.afdx_arguments.specs.Commands.{number_rule, alone_app}
use Rattle.afdx_arguments.proofs.CommandLemmas.{if_argument, if_rule}
use Rattle.afdx_arguments.proofs.command.alone.Goals as goal

abbrev one_argument : App
one_argument = with_rule (new_app (codes "alone")) (number_rule (codes "id"))

abbrev two_arguments : App
two_arguments = with_rule one_argument (number_rule (codes "bag"))

abbrev three_arguments : App
three_arguments = with_rule two_arguments (number_rule (codes "jitter"))

pub returns : goal.returns
unfolding alone_app
returns c =
    let one = if_argument c.with_no_arguments.result c.number_option-id.result c.arg-command.result _ _ (c.with_no_arguments.ensures.app, c.with_no_arguments.ensures.local)
    c.number_option-id.ensures.rule c.number_option-id.ensures.local c.arg-command.ensures in
    let two = if_rule c.with_argument.result one_argument c.number_option-bag.result _ c.number_option-bag.ensures.rule (c.with_argument.ensures.app one_argument one.0) in
    let three = if_rule c.with_argument-2.result two_arguments c.number_option-jitter.result _ c.number_option-jitter.ensures.rule (c.with_argument-2.ensures.app two_arguments two) in
    let four = if_rule c.with_argument-3.result three_arguments c.number_option-size.result _ c.number_option-size.ensures.rule (c.with_argument-3.ensures.app three_arguments three) in
    record { app = four; local = c.with_argument-3.ensures.local (c.with_argument-2.ensures.local (c.with_argument.ensures.local one.1)) }
