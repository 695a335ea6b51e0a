use Rattle.std.proofs.Common.{◌≡◌, take}
use Rattle.afdx_network.proofs.NewLines.{HavePushed}
use Rattle.afdx_network.proofs.one_line.push_lines.Given as goal

abbrev pub invariant-loop-row : goal.invariant-loop-row
invariant-loop-row l = record {
  ports : l.row-items ≡ l.table.ports;
  lines : HavePushed l.network l.switch (take l.row-index l.row-items) l.initial.lines.items l.lines.items;
}
