use Rattle.std.proofs.Common.{◌≡◌, ◌≤◌, ◌^◌, ◌*◌, take}
use Rattle.std.specs.Prelude.{sum_by}
use Rattle.afdx_serial.specs.Curves.{curve_at}
use Rattle.afdx_grouping.proofs.curve.sum_at.Given as goal

abbrev pub invariant-loop-curve : goal.invariant-loop-curve
invariant-loop-curve l = record {
  sum : l.sum ≡ sum_by (λ c. curve_at c l.window) (take l.curve-index l.curves);
  small : l.sum ≤ l.curve-index * 2 ^ 119;
}
