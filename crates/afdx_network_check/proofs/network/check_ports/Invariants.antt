use Rattle.std.proofs.Common.{◌≡◌, drop}
use Rattle.afdx_network_check.specs.Order.{by_wires, has_ports}
use Rattle.afdx_network_check.proofs.network.check_ports.Given as goal

abbrev pub invariant-loop-index : goal.invariant-loop-index
invariant-loop-index l = by_wires (has_ports l.tables) l.index (drop l.index l.wires) ≡ by_wires (has_ports l.tables) 0 l.wires
