use Rattle.std.proofs.Common.{ap, ◌∙◌, Some}
use Rattle.clap.specs.Simple.{app_of_fields}
use Rattle.clap.specs.declared.builder.command.Command.{Command}
use Rattle.clap.specs.declared.builder.command.Command.TheOpen.{Command-F}
use Rattle.afdx_arguments.proofs.command.with_no_arguments.Goals as goal

pub returns : goal.returns
returns c =
    let is = c.after_help.ensures ∙ ap (λ (f : Command-F Command). record f { after_help = Some c.args.more }) c.about.ensures in
    record { app = ap app_of_fields is ∙ c.new.ensures.app; local = ap (λ (f : Command-F Command). f.has_globals) is ∙ c.new.ensures.local }
