use Rattle.std.proofs.Common.{◌≡◌, map, take, string_bytes}
use Rattle.afdx_serve.specs.NetworkTraces.{network_trace_names}
use Rattle.afdx_serve.proofs.network_trace.all_names.Given as goal

abbrev pub invariant-loop-name : goal.invariant-loop-name
invariant-loop-name l = map string_bytes l.all.items ≡ network_trace_names l.output (map string_bytes (take l.name-index l.names))
