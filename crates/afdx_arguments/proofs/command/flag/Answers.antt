use Rattle.std.proofs.Common.{ap, ◌∙◌, Some}
use Rattle.clap.specs.Words.{Rule, rule_of}
use Rattle.clap.specs.declared.builder.action.ArgAction.TheVariants.{SetTrue}
use Rattle.clap.specs.declared.builder.arg.Arg.{Arg}
use Rattle.afdx_arguments.proofs.command.flag.Goals as goal

pub returns : goal.returns
returns c =
    let is = c.action.ensures
    ∙ ap (λ (a : Arg). record a { action = Some SetTrue }) (c.help.ensures
    ∙ ap (λ (a : Arg). record a { help = Some c.args.about }) c.long.ensures) in
    record {
      rule = ap rule_of is ∙ ap (λ (r : Rule). record r { long = Some c.args.name.now; action = Some SetTrue }) c.new.ensures.rule;
      local = ap (λ (a : Arg). a.global) is ∙ c.new.ensures.optional.1;
    }
