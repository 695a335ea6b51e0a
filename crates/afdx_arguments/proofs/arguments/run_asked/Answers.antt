use Rattle.std.proofs.Common.{codes, sym}
use Rattle.std.proofs.lemmas.Slice.Eq.{bytes_eq-Decides}
use Rattle.clap.specs.Words.{found_of, rows_of}
use Rattle.afdx_arguments.proofs.ArgumentLemmas.{no_entry, no_recordings, of_none}
use Rattle.afdx_arguments.proofs.arguments.run_asked.Goals as goal

pub returns-in_err-entry : goal.returns-in_err-entry
returns-in_err-entry c =
    let name = c.args.name.now in
    let rows = rows_of (found_of c.args.inner.now) in
    of_none _ _ _ c.from_residual-in_err-entry.ensures (no_entry name rows ((bytes_eq-Decides name (codes "explain")).0 (sym c.if-eq-4.ensures)) c.in_err-entry.ensures)

pub returns-in_err-recordings : goal.returns-in_err-recordings
returns-in_err-recordings c =
    let name = c.args.name.now in
    let rows = rows_of (found_of c.args.inner.now) in
    of_none _ _ _ c.from_residual-in_err-recordings.ensures
    (no_recordings name rows ((bytes_eq-Decides name (codes "compare")).0 (sym c.if-eq-5.ensures)) c.in_err-recordings.ensures)
