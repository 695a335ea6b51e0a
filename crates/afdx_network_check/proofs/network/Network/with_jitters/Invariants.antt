use Rattle.std.proofs.Common.{◌≡◌, drop}
use Rattle.afdx_network_check.specs.Inner.Given.{given_all}
use Rattle.afdx_network_check.proofs.network.Network.with_jitters.Given as goal

abbrev pub invariant-loop-row : goal.invariant-loop-row
invariant-loop-row l = given_all (drop l.row-index l.needs) l.tables.items ≡ given_all l.needs l.initial.tables.items
