use Rattle.std.proofs.Common.{length}
use Rattle.afdx_core.specs.State.{place_of}
use Rattle.afdx_session.specs.Inner.Replay.{left_at}
use Rattle.afdx_session.specs.Inner.Parts.{DrainsInto}
use Rattle.afdx_session.proofs.drain.drain_into.Given as goal

abbrev pub invariant-loop-lane : goal.invariant-loop-lane
invariant-loop-lane g l = DrainsInto g.F.NewFile.contents l.fn.switch l.fn.lane l.fn.file l.switch l.lane l.file

abbrev pub decreases-loop-lane : goal.decreases-loop-lane
decreases-loop-lane g l = length (left_at l.switch.run (place_of l.switch.run l.fn.lane.port))
