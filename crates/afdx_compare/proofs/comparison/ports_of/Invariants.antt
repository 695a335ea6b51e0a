use Rattle.std.proofs.Common.{◌≡◌, ◌++◌, drop, map}
use Rattle.afdx_compare.specs.Comparison.{no_records}
use Rattle.afdx_compare.proofs.comparison.ports_of.Given as goal

abbrev pub invariant-loop-row : goal.invariant-loop-row
invariant-loop-row g l = map (λ p. no_records) l.table.ports ≡ l.ports.items ++ map (λ p. no_records) (drop l._row-index l.table.ports)
