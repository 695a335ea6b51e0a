use Rattle.std.proofs.Common.{◌≡◌}
use Rattle.afdx_session.proofs.lane.look_ahead.Given as goal

abbrev pub invariant-loop-lane : goal.invariant-loop-lane
invariant-loop-lane g l = l.lanes ≡ l.fn.lanes
