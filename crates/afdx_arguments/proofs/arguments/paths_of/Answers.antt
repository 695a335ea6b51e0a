use Rattle.std.proofs.Common.{rules, sym}
use Rattle.afdx_arguments.proofs.arguments.paths_of.Goals as goal

pub returns : goal.returns
returns c = record {
  table = sym c.in_ok-table.ensures;
  input = sym c.in_ok-input.ensures;
  output = sym c.in_ok-output.ensures;
  has_input = search rules;
  has_output = search rules;
  unchecked = c.flag-unchecked.ensures;
}
