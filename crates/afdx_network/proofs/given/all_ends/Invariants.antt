use Rattle.std.proofs.Common.{◌≡◌, ◌++◌, drop}
use Rattle.afdx_network.specs.Given.{all_from}
use Rattle.afdx_network.proofs.given.all_ends.Given as goal

abbrev pub invariant-loop-switch : goal.invariant-loop-switch
invariant-loop-switch l = record {
  tables : l.table-items ≡ l.network.tables;
  ends : all_from 0 l.table-items ≡ l.ends.items ++ all_from l.switch (drop l.switch l.table-items);
}
