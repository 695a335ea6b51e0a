use Rattle.std.proofs.Common.{◌≡◌, ◌++◌, drop, string_bytes}
use Rattle.std.specs.Prelude.{flat_map}
use Rattle.afdx_count.specs.Report.{in_line}
use Rattle.afdx_count.proofs.report.put_inputs.Given as goal

abbrev pub invariant-loop-port : goal.invariant-loop-port
invariant-loop-port g l = string_bytes l.initial.text ++ flat_map in_line l.ports ≡ string_bytes l.text ++ flat_map in_line (drop l.port-index l.ports)
