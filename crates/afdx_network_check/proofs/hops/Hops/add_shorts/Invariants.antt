use Rattle.std.proofs.Common.{◌≡◌, drop}
use Rattle.afdx_network_check.specs.Net.{rows_in}
use Rattle.afdx_network_check.specs.Order.{added, shorts_in}
use Rattle.afdx_network_check.proofs.hops.Hops.add_shorts.Given as goal

abbrev pub invariant-loop-index : goal.invariant-loop-index
invariant-loop-index l =
    added l.shorts.items (shorts_in l.self (rows_in l.switch (drop l.index l.table.links))) ≡ added l.initial.shorts.items (shorts_in l.self (rows_in l.switch l.table.links))
