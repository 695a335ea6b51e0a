use Rattle.std.proofs.Common.{◌≡◌, ℕ, ◌<◌, length, get_or}
use Rattle.afdx_measure.specs.declared.gauges.AtPort.{AtPort}
use Rattle.afdx_measure.specs.Inner.Gauged.{IsFresh}
use Rattle.afdx_measure.proofs.gauges.ports_of.Given as goal

abbrev pub invariant-loop-place : goal.invariant-loop-place
invariant-loop-place g l = record {
  many : length l.ports.items ≡ l._place;
  each : (k : ℕ) (a : AtPort _) → k < length l.ports.items → IsFresh (length l.table.links) (get_or l.ports.items k a);
}
