use Rattle.std.proofs.Common.{ap, ◌∙◌, Some}
use Rattle.clap.specs.Words.{Rule, new_rule, rule_of}
use Rattle.clap.specs.declared.builder.action.ArgAction.TheVariants.{Append}
use Rattle.clap.specs.declared.builder.arg.Arg.{Arg}
use Rattle.clap.specs.declared.builder.texts.Texts.TheVariants.{One}
use Rattle.afdx_arguments.proofs.command.links_option.Goals as goal

pub returns : goal.returns
returns c =
    let name = c.args.name.now in
    let parser = c.value_parser.result.value_parser in
    let given = c.value_parser.ensures.given in
    let is = c.value_parser.ensures.others
    ∙ ap (λ (a : Arg). record a { value_parser = parser }) (c.action.ensures
    ∙ ap (λ (a : Arg). record a { action = Some Append }) (c.help.ensures
    ∙ ap (λ (a : Arg). record a { help = Some c.args.about }) (c.value_name.ensures
    ∙ ap (λ (a : Arg). record a { val_names = One c.args.value }) c.long.ensures))) in
    record {
      rule = ap rule_of is
          ∙ ap (λ (r : Rule). record r { long = Some name; value_names = 1; action = Some Append; parser = parser }) c.new.ensures.rule
          ∙ ap (λ p. record (new_rule name) { long = Some name; value_names = 1; action = Some Append; parser = p }) (given.1 ∙ ap (λ q. Some q) (given.2 ∙ c.unsigned.ensures));
      local = ap (λ (a : Arg). a.global) is ∙ c.new.ensures.optional.1;
    }
