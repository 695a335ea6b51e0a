use Rattle.afdx_session.proofs.Gone.{DrainsUpTo}
use Rattle.afdx_session.proofs.drain.drain_all.Given as goal

abbrev pub invariant-loop-lane : goal.invariant-loop-lane
invariant-loop-lane g l = DrainsUpTo l.fn.switch l.fn.lanes l.switch l.lanes l.lane-index
