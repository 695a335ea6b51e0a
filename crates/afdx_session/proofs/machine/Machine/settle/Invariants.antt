use Rattle.afdx_session.proofs.Settles.{SettledUpTo}
use Rattle.afdx_session.proofs.machine.Machine.settle.Given as goal

abbrev pub invariant-loop-lane : goal.invariant-loop-lane
invariant-loop-lane g l = SettledUpTo l.lane-index l.fn.self.lanes.items l.lane-items
