use Rattle.std.proofs.Common.{◌≡◌, ◌++◌, drop}
use Rattle.afdx_network_check.specs.Order.{row_of}
use Rattle.afdx_network_check.specs.Ways.{exits_at}
use Rattle.afdx_network_check.proofs.WayLemmas.{exits_from}
use Rattle.afdx_network_check.proofs.network.Network.add_exits.Given as goal

abbrev pub invariant-loop-port : goal.invariant-loop-port
invariant-loop-port l =
    l.exits.items ++ exits_from l.self (row_of l.row) (drop l.port-index (row_of l.row).link.to) ≡ l.initial.exits.items ++ exits_at l.self (row_of l.row)
