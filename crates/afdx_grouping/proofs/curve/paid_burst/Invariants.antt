use Rattle.std.proofs.Common.{◌≡◌, ◌≤◌, ◌^◌, ◌*◌, take}
use Rattle.afdx_grouping.specs.Burst.{paid_burst}
use Rattle.afdx_grouping.proofs.curve.paid_burst.Given as goal

abbrev pub invariant-loop-curve : goal.invariant-loop-curve
invariant-loop-curve l = record {
  sum : l.sum ≡ paid_burst (take l.curve-index l.curves);
  small : l.sum ≤ l.curve-index * 2 ^ 73;
}
