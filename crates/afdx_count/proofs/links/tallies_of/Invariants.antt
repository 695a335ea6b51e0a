use Rattle.std.proofs.Common.{◌≡◌, take, map}
use Rattle.afdx_count.specs.Tally.{new_link}
use Rattle.afdx_count.proofs.links.tallies_of.Given as goal

abbrev pub invariant-loop-index : goal.invariant-loop-index
invariant-loop-index g l = l.tallies.items ≡ map new_link (take l.index l.table.links)
