use Rattle.std.proofs.Common.{◌≡◌, List, length, take}
use Rattle.afdx_trace.specs.Inner.Telling.{HaveGone, AreOffered, refused_among}
use Rattle.afdx_trace.proofs.tracing.offer_all.Given as goal

-- the ports before this one were offered it
abbrev pub invariant-loop-port : goal.invariant-loop-port
invariant-loop-port g l = record {
  full : l.full.items ≡ refused_among l.item l.initial.ports (take l.port-index l.to);
  offered : AreOffered l.shown l.item (take l.port-index l.to) l.initial.ports l.ports;
  gone : (start : List g.row.F.Denot) → HaveGone g.F.NewFile.contents start l.initial.files l.initial.ports → HaveGone g.F.NewFile.contents start l.files l.ports;
  files : length l.files ≡ length l.ports;
}
