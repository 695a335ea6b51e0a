use Rattle.std.proofs.Common.{ap, ◌∙◌, Some}
use Rattle.clap.specs.Words.{Rule, rule_of}
use Rattle.clap.specs.declared.builder.arg.Arg.{Arg}
use Rattle.clap.specs.declared.builder.texts.Texts.TheVariants.{One}
use Rattle.afdx_arguments.proofs.command.text_option.Goals as goal

pub returns : goal.returns
returns c =
    let is = c.help.ensures
    ∙ ap (λ (a : Arg). record a { help = Some c.args.about }) (c.value_name.ensures
    ∙ ap (λ (a : Arg). record a { val_names = One c.args.value }) c.long.ensures) in
    record {
      rule = ap rule_of is ∙ ap (λ (r : Rule). record r { long = Some c.args.name.now; value_names = 1 }) c.new.ensures.rule;
      local = ap (λ (a : Arg). a.global) is ∙ c.new.ensures.optional.1;
    }
