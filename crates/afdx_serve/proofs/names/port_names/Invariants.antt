use Rattle.std.proofs.Common.{◌≡◌, map, take, string_bytes}
use Rattle.afdx_serve.specs.Runs.{capture_name}
use Rattle.afdx_serve.proofs.names.port_names.Given as goal

abbrev pub invariant-loop-port : goal.invariant-loop-port
invariant-loop-port l = map string_bytes l.names.items ≡ map (λ p. capture_name l.folder p.id) (take l.port-index l.ports)
