use Rattle.std.proofs.Common.{◌≡◌, map, take}
use Rattle.afdx_session.proofs.sources.numbers_of.Given as goal

abbrev pub invariant-loop-row : goal.invariant-loop-row
invariant-loop-row g l = l.numbers.items ≡ map (λ p. p.id) (take l.row-index l.ports)
