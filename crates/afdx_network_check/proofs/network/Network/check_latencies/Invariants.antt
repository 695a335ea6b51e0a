use Rattle.std.proofs.Common.{◌≡◌, drop}
use Rattle.afdx_network_check.specs.Order.{lost_latency}
use Rattle.afdx_network_check.proofs.network.Network.check_latencies.Given as goal

abbrev pub invariant-loop-switch : goal.invariant-loop-switch
invariant-loop-switch l = lost_latency l.self l.switch (drop l.switch l.self.tables) ≡ lost_latency l.self 0 l.self.tables
