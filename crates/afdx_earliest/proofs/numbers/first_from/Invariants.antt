use Rattle.afdx_earliest.specs.Inner.Groups.{IsFirstFrom}
use Rattle.afdx_earliest.proofs.numbers.first_from.Given as goal

abbrev pub invariant-loop-place : goal.invariant-loop-place
invariant-loop-place l = IsFirstFrom l.numbers l.start l.place l.first l.least
