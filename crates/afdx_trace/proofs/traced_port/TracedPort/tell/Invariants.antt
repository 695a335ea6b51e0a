use Rattle.std.proofs.Common.{◌+◌, List, length, drop}
use Rattle.afdx_port.specs.Service.{Event, sent_of, aged_of}
use Rattle.afdx_port.specs.Content.{done}
use Rattle.afdx_trace.specs.Inner.Lines.{HasGone}
use Rattle.afdx_trace.specs.Inner.Telling.{IsTelling, IsSamePort}
use Rattle.afdx_trace.proofs.traced_port.TracedPort.tell.Given as goal

abbrev pub invariant-loop-self : goal.invariant-loop-self
invariant-loop-self g l = record {
  telling : (left : List Event) × IsTelling l.shown l.self left;
  same : IsSamePort l.initial.self l.self;
  gone : (start : g.row.F.Denot) → HasGone g.F.NewFile.contents start l.initial.file l.initial.self.lines → HasGone g.F.NewFile.contents start l.file l.self.lines;
}

abbrev pub decreases-loop-self : goal.decreases-loop-self
decreases-loop-self g l = length (drop l.self.sent (sent_of (done l.self.flow.content))) + length (drop l.self.aged (aged_of (done l.self.flow.content)))
