use Rattle.std.proofs.Common.{length}
use Rattle.afdx_alone.proofs.Progress.{GoesOn}
use Rattle.afdx_alone.proofs.policing.Policing.take_records.Given as goal

abbrev pub invariant-loop-format : goal.invariant-loop-format
invariant-loop-format g l = GoesOn l.link l.format l.bytes l.rest l.fn.self l.self

abbrev pub decreases-loop-format : goal.decreases-loop-format
decreases-loop-format g l = length l.rest
