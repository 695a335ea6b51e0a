use Rattle.std.proofs.Common.{◌≡◌, [], drop}
use Rattle.afdx_network_check.specs.Net.{rows_from, rows_of}
use Rattle.afdx_network_check.specs.Order.{fed_numbers, each_once}
use Rattle.afdx_network_check.proofs.network.Network.each_fed_once.Given as goal

abbrev pub invariant-loop-switch : goal.invariant-loop-switch
invariant-loop-switch l = each_once l.met.keys (fed_numbers l.self (rows_from l.switch (drop l.switch l.self.tables))) ≡ each_once [] (fed_numbers l.self (rows_of l.self))
