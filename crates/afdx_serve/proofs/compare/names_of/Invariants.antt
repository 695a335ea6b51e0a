use Rattle.std.proofs.Common.{◌≡◌, ◌++◌, map, take, string_bytes}
use Rattle.afdx_serve.specs.Runs.{capture_name}
use Rattle.afdx_serve.specs.Compares.{output_names}
use Rattle.afdx_serve.proofs.compare.names_of.Given as goal

abbrev pub invariant-loop-port : goal.invariant-loop-port
invariant-loop-port l =
    map string_bytes l.names.items ≡ map (λ p. capture_name l.compare.input.now p.id) l.ports ++ output_names l.compare.output.now l.recorded (take l.port-index l.ports)
