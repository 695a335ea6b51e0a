use Rattle.afdx_session.proofs.Ports.{AreUpTo}
use Rattle.afdx_session.proofs.whole.are_of_ports.Given as goal

abbrev pub invariant-loop-place : goal.invariant-loop-place
invariant-loop-place g l = AreUpTo l.ports l.captures l.place
