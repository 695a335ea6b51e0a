use Rattle.std.proofs.Common.{◌≡◌, ◌++◌, drop, string_bytes}
use Rattle.afdx_compare.specs.Differences.{all_rows}
use Rattle.afdx_compare.proofs.columns.put_ports.Given as goal

abbrev pub invariant-loop-place : goal.invariant-loop-place
invariant-loop-place g l =
    string_bytes l.initial.text ++ all_rows l.offsets l.comparison 0 l.comparison.ports
    ≡ string_bytes l.text ++ all_rows l.offsets l.comparison l.place (drop l.place l.comparison.ports)
