use Rattle.clap.specs.Words.{found_of, rows_of}
use Rattle.afdx_arguments.proofs.ArgumentLemmas.{of_none}
use Rattle.afdx_arguments.proofs.CompareLemmas.{no_instant}
use Rattle.afdx_arguments.proofs.compare_arguments.stamp_of.Goals as goal

pub returns-in_err-stamp-in-Some : goal.returns-in_err-stamp-in-Some
returns-in_err-stamp-in-Some c =
    of_none _ _ _ c.from_residual.ensures
    (no_instant c.args.name.now (rows_of (found_of c.args.matches.now)) c.in-Some.ns c.in-Some.ensures c.in_err-stamp-in-Some.ensures)
