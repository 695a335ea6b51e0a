use Rattle.std.proofs.Common.{ap, ◌∙◌, Some}
use Rattle.clap.specs.Words.{Rule, rule_of}
use Rattle.clap.specs.declared.builder.arg.Arg.{Arg}
use Rattle.afdx_arguments.specs.Commands.{text_rule}
use Rattle.afdx_arguments.proofs.compare_command.optional_number.Goals as goal

pub returns : goal.returns
returns c =
    let parser = c.value_parser.result.value_parser in
    let given = c.value_parser.ensures.given in
    let is = c.value_parser.ensures.others in
    record {
      rule = ap rule_of is
          ∙ ap (λ (r : Rule). record r { parser = parser }) c.text_option.ensures.rule
          ∙ ap (λ p. record (text_rule c.args.name.now) { parser = p }) (given.1 ∙ ap (λ q. Some q) (given.2 ∙ c.unsigned.ensures));
      local = ap (λ (a : Arg). a.global) is ∙ c.text_option.ensures.local;
    }
