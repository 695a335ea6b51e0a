use Rattle.std.proofs.Common.{◌≡◌, drop}
use Rattle.afdx_network_check.specs.Order.{tables_fit}
use Rattle.afdx_network_check.proofs.network.Network.tables_fit.Given as goal

abbrev pub invariant-loop-switch : goal.invariant-loop-switch
invariant-loop-switch l = tables_fit l.self l.switch (drop l.switch l.self.tables) ≡ tables_fit l.self 0 l.self.tables
