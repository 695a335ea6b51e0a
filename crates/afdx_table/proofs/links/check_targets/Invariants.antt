use Rattle.std.proofs.Common.{◌≡◌, drop, take, []}
use Rattle.afdx_table.specs.Links.{targets}
use Rattle.afdx_table.proofs.links.check_targets.Given as goal

abbrev pub invariant-loop-index : goal.invariant-loop-index
invariant-loop-index l = targets l.at l.ports l.from (take l.index l.to) (drop l.index l.to) ≡ targets l.at l.ports l.from [] l.to
