use Rattle.std.proofs.Common.{◌≡◌, ◌≤◌, ◌++◌, drop}
use Rattle.afdx_network_trace.specs.Column.{with_column}
use Rattle.afdx_network_trace.proofs.column.with_first_numbers.Given as goal

abbrev pub invariant-loop-byte : goal.invariant-loop-byte
invariant-loop-byte l = record {
  text : with_column 0 l.firsts l.arrivals ≡ l.text.items ++ with_column l.line l.firsts (drop l.byte-index l.arrivals);
  lines : l.line ≤ l.byte-index;
}
