use Rattle.std.proofs.Common.{◌≡◌}
use Rattle.afdx_network.proofs.NewLines.{AreNewTo}
use Rattle.afdx_network.proofs.one_line.given_lines.Given as goal

abbrev pub invariant-loop-switch : goal.invariant-loop-switch
invariant-loop-switch l = record {
  tables : l.table-items ≡ l.network.tables;
  lines : AreNewTo l.network l.switch l.table-items l.lines.items;
}
