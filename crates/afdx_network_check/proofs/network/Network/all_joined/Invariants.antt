use Rattle.std.proofs.Common.{◌≡◌, drop}
use Rattle.afdx_network_check.specs.Order.{by_wires, joined_at}
use Rattle.afdx_network_check.proofs.network.Network.all_joined.Given as goal

abbrev pub invariant-loop-index : goal.invariant-loop-index
invariant-loop-index l = by_wires (joined_at l.self) l.index (drop l.index l.self.layout.wires) ≡ by_wires (joined_at l.self) 0 l.self.layout.wires
