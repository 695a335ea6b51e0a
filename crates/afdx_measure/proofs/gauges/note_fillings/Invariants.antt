use Rattle.std.proofs.Common.{[], take}
use Rattle.afdx_core.specs.State.{Run}
use Rattle.afdx_measure.specs.Inner.Gauged.{Fill, ArePeaks, DelaysStay}
use Rattle.afdx_measure.proofs.gauges.note_fillings.Given as goal

abbrev pub invariant-loop-asked : goal.invariant-loop-asked
invariant-loop-asked g l = record {
  peaks : (r : Run) → Fill r l.relay.run l.at l.offers → ArePeaks r l.relay.run [] l.initial.ports → ArePeaks r l.relay.run (take l.asked l.offers) l.ports;
  delays : DelaysStay l.initial.ports l.ports;
}
