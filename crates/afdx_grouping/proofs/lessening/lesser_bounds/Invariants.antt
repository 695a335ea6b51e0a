use Rattle.std.proofs.Common.{◌≡◌, take, map}
use Rattle.afdx_load.specs.Bounds.{bounds_of}
use Rattle.afdx_grouping.specs.Groups.{lesser_load}
use Rattle.afdx_grouping.specs.Lined.{rounding_in}
use Rattle.afdx_grouping.proofs.lessening.lesser_bounds.Given as goal

abbrev pub invariant-loop-to : goal.invariant-loop-to
invariant-loop-to l = l.bounds.items ≡ map (λ to. bounds_of (lesser_load l.scatter (rounding_in l.roundings) l.table to)) (take l.to-index l.table.ports)
