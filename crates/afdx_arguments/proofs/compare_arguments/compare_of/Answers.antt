use Rattle.std.proofs.Common.{rules, sym, ◌≡◌, ◌∙◌, true}
use Rattle.afdx_arguments.proofs.compare_arguments.compare_of.Goals as goal

pub returns : goal.returns
returns c = record {
  table = sym c.in_ok-table.ensures;
  input = sym c.in_ok-input.ensures;
  output = sym c.in_ok-output.ensures;
  has_input = search rules;
  has_output = search rules;
  folder = sym c.argument-rows.ensures;
  has_folder = λ none.
      let empty : c.is_empty-else-is_empty-2.result ≡ true = c.is_empty-else-is_empty-2.ensures.1 (c.argument-rows.ensures ∙ none) in
      let not_empty = c.if-is_empty-3.false in
      absurd cc;
}
