use Rattle.afdx_trace.specs.Inner.Telling.{AreEnded}
use Rattle.afdx_trace.proofs.tracing.end_all.Given as goal

-- the ports before this one ended
abbrev pub invariant-loop-place : goal.invariant-loop-place
invariant-loop-place g l = AreEnded l.shown g.F.NewFile.contents l.place l.initial.files l.files l.initial.ports l.ports
