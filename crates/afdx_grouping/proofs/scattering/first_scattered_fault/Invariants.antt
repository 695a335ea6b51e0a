use Rattle.std.proofs.Common.{◌≡◌, drop}
use Rattle.afdx_grouping.specs.Scatter.{first_scattered_fault}
use Rattle.afdx_grouping.proofs.scattering.first_scattered_fault.Given as goal

abbrev pub invariant-loop-row : goal.invariant-loop-row
invariant-loop-row l =
    first_scattered_fault l.scatter l.table.latency l.table.links l.table.ports ≡ first_scattered_fault l.scatter l.table.latency l.table.links (drop l.row-index l.table.ports)
