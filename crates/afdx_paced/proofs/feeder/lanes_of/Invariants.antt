use Rattle.std.proofs.Common.{◌≡◌, map, take}
use Rattle.afdx_paced.specs.Inner.Parts.{fresh_parts}
use Rattle.afdx_paced.proofs.feeder.lanes_of.Given as goal

abbrev pub invariant-loop-row : goal.invariant-loop-row
invariant-loop-row g l = l.lanes.items ≡ map (λ p. fresh_parts p.id) (take l.row-index l.ports)
