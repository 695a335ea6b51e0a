use Rattle.std.proofs.Common.{◌≡◌, ◌++◌, drop}
use Rattle.afdx_compare.specs.Sources.{outputs_from, output_clocks}
use Rattle.afdx_compare.proofs.sources.Sources.add_outputs.Given as goal

abbrev pub invariant-loop-place : goal.invariant-loop-place
invariant-loop-place g l = record {
  captures : l.initial.self.captures ++ outputs_from l.recordings.outputs 0 l.table.ports ≡ l.self.captures ++ outputs_from l.recordings.outputs l.place (drop l.place l.table.ports);
  clocks : l.initial.self.clocks ++ output_clocks l.recordings l.table.ports ≡ l.self.clocks ++ output_clocks l.recordings (drop l.place l.table.ports);
}
