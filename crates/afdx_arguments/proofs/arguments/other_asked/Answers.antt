use Rattle.std.proofs.Common.{codes, sym}
use Rattle.std.proofs.lemmas.Slice.Eq.{bytes_eq-Decides}
use Rattle.clap.specs.Words.{found_of, rows_of}
use Rattle.afdx_arguments.proofs.ArgumentLemmas.{no_link, of_none}
use Rattle.afdx_arguments.proofs.arguments.other_asked.Goals as goal

pub returns-in_err-link : goal.returns-in_err-link
returns-in_err-link c =
    let name = c.args.name.now in
    of_none _ _ _ c.from_residual.ensures
    (no_link name (rows_of (found_of c.args.inner.now)) ((bytes_eq-Decides name (codes "alone")).0 (sym c.if-eq.ensures)) c.in_err-link.ensures)
