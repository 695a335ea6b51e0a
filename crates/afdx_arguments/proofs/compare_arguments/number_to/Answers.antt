use Rattle.clap.specs.Words.{found_of, rows_of}
use Rattle.afdx_arguments.proofs.CompareLemmas.{too_great}
use Rattle.afdx_arguments.proofs.compare_arguments.number_to.Goals as goal

pub returns-then-number-most : goal.returns-then-number-most
returns-then-number-most c =
    too_great c.args.name.now c.args.most (rows_of (found_of c.args.matches.now)) c.number.result c.unwrap_or-number.result c.number.ensures c.unwrap_or-number.ensures c.if-number-most.true

pub returns : goal.returns
returns c = record {
  entry = c.number.result;
  has_entry = c.number.ensures;
  is = c.unwrap_or-number.ensures;
  limit = c.if-number-most.false;
}
