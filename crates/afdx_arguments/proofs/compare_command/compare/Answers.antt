use Rattle.std.proofs.Common.{codes}
use Rattle.clap.specs.Words.{App, with_rule}
use Rattle.afdx_arguments.specs.Commands.{compare_app, files_app, text_rule, with_span, with_stamps}
use Rattle.afdx_arguments.proofs.CommandLemmas.{if_rule}
use Rattle.afdx_arguments.proofs.compare_command.compare.Goals as goal

abbrev files : App
files = files_app (codes "compare")

abbrev spans : App
spans = with_span (with_stamps files)

abbrev ports : App
ports = with_rule spans (text_rule (codes "ports"))

abbrev folder : App
folder = with_rule ports (text_rule (codes "rows"))

pub returns : goal.returns
unfolding compare_app
returns c =
    let span = c.with_span-command.ensures.app (with_stamps files) (c.with_stamps.ensures.app files c.with_files-command.ensures.app) in
    let one = if_rule c.with_argument.result spans c.text_option-ports.result _ c.text_option-ports.ensures.rule (c.with_argument.ensures.app spans span) in
    let two = if_rule c.with_argument-command.result ports c.text_option-rows.result _ c.text_option-rows.ensures.rule (c.with_argument-command.ensures.app ports one) in
    record {
      app = if_rule c.with_argument-2.result folder c.csv.result _ c.csv.ensures.rule (c.with_argument-2.ensures.app folder two);
      local = c.with_argument-2.ensures.local (c.with_argument-command.ensures.local
          (c.with_argument.ensures.local (c.with_span-command.ensures.local (c.with_stamps.ensures.local c.with_files-command.ensures.local))));
    }
