use Rattle.std.proofs.Common.{◌*◌}
use Rattle.afdx_earliest.specs.Inner.Groups.{IsFirstFrom}
use Rattle.afdx_earliest.proofs.instants.Instants.first.Given as goal

-- the first of the groups so far
abbrev pub invariant-loop-group : goal.invariant-loop-group
invariant-loop-group l = IsFirstFrom l.self-inside.numbers 0 (l.group * 6) l.first l.least
