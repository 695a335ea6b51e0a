use Rattle.std.proofs.Common.{◌≡◌, ◌++◌, drop, string_bytes}
use Rattle.afdx_compare.specs.Report.{ports_from}
use Rattle.afdx_compare.proofs.lines.put_ports.Given as goal

abbrev pub invariant-loop-place : goal.invariant-loop-place
invariant-loop-place g l =
    string_bytes l.initial.text ++ ports_from l.form l.recorded l.comparison.table.ports 0 l.comparison.ports
    ≡ string_bytes l.text ++ ports_from l.form l.recorded l.comparison.table.ports l.place (drop l.place l.comparison.ports)
