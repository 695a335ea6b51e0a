use Rattle.std.proofs.Common.{◌≡◌, drop}
use Rattle.afdx_network_check.specs.Order.{by_wires, shares}
use Rattle.afdx_network_check.proofs.network.Network.all_share.Given as goal

abbrev pub invariant-loop-index : goal.invariant-loop-index
invariant-loop-index l = by_wires (shares l.self l.what) l.index (drop l.index l.self.layout.wires) ≡ by_wires (shares l.self l.what) 0 l.self.layout.wires
