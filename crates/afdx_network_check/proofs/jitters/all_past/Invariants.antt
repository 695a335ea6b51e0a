use Rattle.std.proofs.Common.{◌≡◌, ◌++◌, drop}
use Rattle.afdx_network_check.specs.Needs.{all_past}
use Rattle.afdx_network_check.proofs.jitters.all_past.Given as goal

abbrev pub invariant-loop-row : goal.invariant-loop-row
invariant-loop-row l = l.shorts.items ++ all_past (drop l.row-index l.needs) ≡ all_past l.needs
