use Rattle.std.proofs.Common.{◌≡◌, ◌++◌, drop, string_bytes}
use Rattle.std.specs.Prelude.{flat_map}
use Rattle.afdx_count.specs.Report.{out_lines}
use Rattle.afdx_count.proofs.report.put_outputs.Given as goal

abbrev pub invariant-loop-port : goal.invariant-loop-port
invariant-loop-port g l = string_bytes l.initial.text ++ flat_map out_lines l.ports ≡ string_bytes l.text ++ flat_map out_lines (drop l.port-index l.ports)
