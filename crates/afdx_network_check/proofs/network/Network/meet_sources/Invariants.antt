use Rattle.std.proofs.Common.{drop}
use Rattle.afdx_network_check.specs.Net.{rows_in}
use Rattle.afdx_network_check.proofs.OnceLemmas.{Further}
use Rattle.afdx_network_check.proofs.network.Network.meet_sources.Given as goal

abbrev pub invariant-loop-index : goal.invariant-loop-index
invariant-loop-index l = Further l.self l.initial.met.keys l.met.keys (rows_in l.switch l.table.links) (rows_in l.switch (drop l.index l.table.links))
