use Rattle.std.proofs.Common.{◌≡◌, max, drop}
use Rattle.afdx_grouping.specs.Burst.{above, greatest_beside, most_above}
use Rattle.afdx_grouping.proofs.curve.most_above.Given as goal

abbrev pub invariant-loop-curve : goal.invariant-loop-curve
invariant-loop-curve l =
    most_above l.parts l.curves ≡ max l.most (greatest_beside (above l.parts l.curves) (drop l.curve-index l.curves))
