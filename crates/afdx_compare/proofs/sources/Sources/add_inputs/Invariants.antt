use Rattle.std.proofs.Common.{◌≡◌, ◌++◌, drop, map}
use Rattle.afdx_compare.specs.Sources.{input_clock, inputs_from}
use Rattle.afdx_compare.proofs.sources.Sources.add_inputs.Given as goal

abbrev pub invariant-loop-place : goal.invariant-loop-place
invariant-loop-place g l = record {
  captures : l.initial.self.captures ++ inputs_from 0 l.table.ports ≡ l.self.captures ++ inputs_from l.place (drop l.place l.table.ports);
  clocks : l.initial.self.clocks ++ map (λ p. input_clock) l.table.ports ≡ l.self.clocks ++ map (λ p. input_clock) (drop l.place l.table.ports);
}
