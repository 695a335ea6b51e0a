use Rattle.clap.specs.Words.{found_of, rows_of}
use Rattle.afdx_arguments.proofs.ExplainingLemmas.{has_entry}
use Rattle.afdx_arguments.proofs.explaining.entry_asked.Goals as goal

pub returns : goal.returns
returns c = has_entry (rows_of (found_of c.args.matches.now)) c.in_ok-code.code.now c.entry_of.result c.in_ok-code.ensures c.entry_of.ensures
