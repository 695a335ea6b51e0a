use Rattle.std.proofs.Common.{◌≡◌, take}
use Rattle.afdx_grouping.specs.Groups.{group_at}
use Rattle.afdx_grouping.specs.Adding.{IsSmall}
use Rattle.afdx_grouping.proofs.group.group_at.Given as goal

abbrev pub invariant-loop-index : goal.invariant-loop-index
invariant-loop-index l = record { so_far : l.group ≡ group_at (take l.index l.table.links) l.from l.to; small : IsSmall l.index l.group }
