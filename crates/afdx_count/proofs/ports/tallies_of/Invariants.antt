use Rattle.std.proofs.Common.{◌≡◌, take, map}
use Rattle.afdx_count.specs.Tally.{new_port}
use Rattle.afdx_count.proofs.ports.tallies_of.Given as goal

abbrev pub invariant-loop-row : goal.invariant-loop-row
invariant-loop-row g l = l.tallies.items ≡ map new_port (take l.row-index l.rows)
