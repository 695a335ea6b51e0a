use Rattle.std.proofs.Common.{◌≡◌, ◌++◌, drop, string_bytes}
use Rattle.std.specs.Prelude.{flat_map}
use Rattle.afdx_measure.specs.Report.{port_line}
use Rattle.afdx_measure.proofs.reporting.put_ports.Given as goal

abbrev pub invariant-loop-row : goal.invariant-loop-row
invariant-loop-row g l =
    (l.row-items ≡ l.measures.run.table.ports) × (string_bytes l.initial.text ++ flat_map (port_line l.measures.run) l.row-items
    ≡ string_bytes l.text ++ flat_map (port_line l.measures.run) (drop l.row-index l.row-items))
