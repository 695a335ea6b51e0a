use Rattle.std.proofs.Common.{◌≡◌, drop}
use Rattle.afdx_network_check.specs.Net.{rows_in}
use Rattle.afdx_network_check.specs.Order.{first_of, has_source}
use Rattle.afdx_network_check.proofs.network.Network.have_sources.Given as goal

abbrev pub invariant-loop-index : goal.invariant-loop-index
invariant-loop-index l = first_of (has_source l.self) (rows_in l.switch (drop l.index l.table.links)) ≡ first_of (has_source l.self) (rows_in l.switch l.table.links)
