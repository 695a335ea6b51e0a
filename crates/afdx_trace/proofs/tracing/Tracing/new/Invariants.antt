use Rattle.std.proofs.Common.{◌≡◌, length}
use Rattle.afdx_trace.proofs.Begun.{AreFresh}
use Rattle.afdx_trace.proofs.tracing.Tracing.new.Given as goal

-- a port for each row so far
abbrev pub invariant-loop-row : goal.invariant-loop-row
invariant-loop-row g l = record {
  rows : l.row-items ≡ l.fn.table.ports;
  many : length l.ports.items ≡ l.row-index;
  fresh : AreFresh l.fn.table.latency l.row-items l.ports.items;
}
