use Rattle.std.proofs.Common.{◌≡◌, drop}
use Rattle.afdx_network_check.specs.Net.{rows_from, rows_of}
use Rattle.afdx_network_check.specs.Order.{added, shorts_in}
use Rattle.afdx_network_check.proofs.hops.Hops.shorts.Given as goal

abbrev pub invariant-loop-switch : goal.invariant-loop-switch
invariant-loop-switch l = added l.shorts.items (shorts_in l.self (rows_from l.switch (drop l.switch l.self.tables))) ≡ shorts_in l.self (rows_of l.self)
