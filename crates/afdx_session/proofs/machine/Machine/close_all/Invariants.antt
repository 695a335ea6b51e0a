use Rattle.afdx_session.proofs.Closing.{Closes}
use Rattle.afdx_session.proofs.machine.Machine.close_all.Given as goal

abbrev pub invariant-loop-lane : goal.invariant-loop-lane
invariant-loop-lane g l = Closes l.fn.self l.lane-items l.lane-index
