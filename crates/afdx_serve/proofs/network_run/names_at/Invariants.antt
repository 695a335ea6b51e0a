use Rattle.std.proofs.Common.{◌≡◌, map, take, string_bytes}
use Rattle.afdx_serve.specs.Inner.NetworkRunning.{end_names}
use Rattle.afdx_serve.proofs.network_run.names_at.Given as goal

abbrev pub invariant-loop-end : goal.invariant-loop-end
invariant-loop-end l = map string_bytes l.all.items ≡ end_names l.path (map string_bytes l.names) (take l.end-index l.ends)
