use Rattle.std.proofs.Common.{◌≡◌, ◌++◌, drop, take, map, All}
use Rattle.afdx_table.specs.WellFormed.{IsWellFormed}
use Rattle.afdx_network_check.specs.Inner.Loads.{bounds_from}
use Rattle.afdx_network_check.proofs.hops.Hops.new.Given as goal

abbrev pub invariant-loop-switch : goal.invariant-loop-switch
invariant-loop-switch l = record {
  bounds : map (λ bounds. bounds.items) l.all.items ++ bounds_from l.network l.switch (drop l.switch l.network.tables) ≡ bounds_from l.network 0 l.network.tables;
  well_formed : All IsWellFormed (take l.switch l.network.tables);
}
