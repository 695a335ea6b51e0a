use Rattle.std.proofs.Common.{◌≡◌, ◌++◌, drop, take, map, All}
use Rattle.afdx_table.specs.WellFormed.{IsWellFormed}
use Rattle.afdx_network_check.specs.Net.{rows_from, rows_of}
use Rattle.afdx_network_check.specs.Needs.{need_in}
use Rattle.afdx_network_check.proofs.hops.Hops.needs.Given as goal

abbrev pub invariant-loop-switch : goal.invariant-loop-switch
invariant-loop-switch l = record {
  rows : l.needs.items ++ map (need_in l.start l.self) (rows_from l.switch (drop l.switch l.self.tables)) ≡ map (need_in l.start l.self) (rows_of l.self);
  well_formed : All IsWellFormed (take l.switch l.self.tables);
}
