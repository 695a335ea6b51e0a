use Rattle.std.proofs.Common.{◌≡◌, ◌++◌, map, drop}
use Rattle.afdx_network.specs.Inner.Outputs.{silent}
use Rattle.afdx_network.proofs.site.silence.Given as goal

abbrev pub invariant-loop-row : goal.invariant-loop-row
invariant-loop-row l = map (λ p. silent p.id) l.ports ≡ l.outputs.items ++ map (λ p. silent p.id) (drop l.row-index l.ports)
