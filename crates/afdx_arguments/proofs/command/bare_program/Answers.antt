use Rattle.std.proofs.Common.{codes, rules, true}
use Rattle.clap.specs.Words.{App, new_app}
use Rattle.clap.specs.Simple.{on_top}
use Rattle.afdx_arguments.proofs.CommandLemmas.{if_rule}
use Rattle.afdx_arguments.proofs.command.bare_program.Goals as goal

abbrev without_flag : App
without_flag = on_top (λ s. record s { subcommand_required = true; has_version = true }) (new_app (codes "afdx"))

pub returns : goal.returns
returns c =
    if_rule c.with_argument.result without_flag c.flag-explained.result _ c.flag-explained.ensures.rule (c.with_argument.ensures.app without_flag (search rules))
