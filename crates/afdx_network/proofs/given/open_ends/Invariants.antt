use Rattle.std.proofs.Common.{◌≡◌, ◌++◌, drop}
use Rattle.afdx_network.specs.Given.{ends_from}
use Rattle.afdx_network.proofs.given.open_ends.Given as goal

abbrev pub invariant-loop-switch : goal.invariant-loop-switch
invariant-loop-switch l = record {
  tables : l.table-items ≡ l.network.tables;
  ends : ends_from l.network 0 l.table-items ≡ l.ends.items ++ ends_from l.network l.switch (drop l.switch l.table-items);
}
