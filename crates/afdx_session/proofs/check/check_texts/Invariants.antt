use Rattle.std.proofs.Common.{take}
use Rattle.afdx_session.specs.Texts.{texts_of}
use Rattle.afdx_session.specs.Inner.Lent.{AreSound}
use Rattle.afdx_session.proofs.check.check_texts.Given as goal

abbrev pub invariant-loop-port : goal.invariant-loop-port
invariant-loop-port g l = AreSound (take l.port-index (texts_of l.captures))
