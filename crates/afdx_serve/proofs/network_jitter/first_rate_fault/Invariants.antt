use Rattle.std.proofs.Common.{◌≡◌, drop}
use Rattle.afdx_serve.specs.NetworkJitters.{first_rate_fault}
use Rattle.afdx_serve.proofs.network_jitter.first_rate_fault.Given as goal

abbrev pub invariant-loop-row : goal.invariant-loop-row
invariant-loop-row l = record {
  rest : first_rate_fault l.table.latency l.table.links l.row-items ≡ first_rate_fault l.table.latency l.table.links (drop l.row-index l.row-items);
  all : l.row-items ≡ l.table.ports;
}
