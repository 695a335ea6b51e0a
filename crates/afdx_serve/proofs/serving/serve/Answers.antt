use Rattle.std.proofs.KnownBytes.{Keeps-refl}
use Rattle.afdx_serve.proofs.ServingLemmas.{reported}
use Rattle.afdx_serve.proofs.serving.serve.Goals as goal

pub returns-in-Ok-clause-served : goal.returns-in-Ok-clause-served
returns-in-Ok-clause-served g c = λ zero. (rw c.plain_of.ensures at c.in-Ok.ensures, Keeps-refl _)

pub returns-in-Err-clause-failed : goal.returns-in-Err-clause-failed
returns-in-Err-clause-failed g c = λ nonzero.
    let line = c.report.ensures.reported in
    (line.0, line.2, reported _ _ _ _ c.in-Err.failure line.0 line.1 (rw c.plain_of.ensures at c.in-Err.ensures), rw c.is_explained.ensures at line.3)
