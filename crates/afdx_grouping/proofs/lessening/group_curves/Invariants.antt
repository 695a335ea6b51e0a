use Rattle.std.proofs.Common.{◌≡◌, take, map, length}
use Rattle.afdx_grouping.specs.Groups.{group_at, line_at, all_curve, high_curve}
use Rattle.afdx_grouping.specs.Lined.{rounding_in}
use Rattle.afdx_grouping.specs.Scatter.{later}
use Rattle.afdx_grouping.proofs.lessening.group_curves.Given as goal

abbrev pub invariant-loop-from : goal.invariant-loop-from
invariant-loop-from l = record {
  all : l.all.items ≡ map (λ from. later l.scatter (all_curve l.to.speed (line_at (rounding_in l.roundings) from) (group_at l.table.links from.id l.to))) (take l.from-index l.table.ports);
  high : l.high.items ≡ map (λ from. later l.scatter (high_curve l.to.speed (line_at (rounding_in l.roundings) from) (group_at l.table.links from.id l.to))) (take l.from-index l.table.ports);
  all_long : length l.all.items ≡ l.from-index;
  high_long : length l.high.items ≡ l.from-index;
}
