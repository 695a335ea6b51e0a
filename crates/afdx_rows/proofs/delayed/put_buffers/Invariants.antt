use Rattle.std.proofs.Common.{◌≡◌, ◌++◌, drop, string_bytes}
use Rattle.std.specs.Prelude.{flat_map}
use Rattle.afdx_rows.specs.Delays.{port_row_of}
use Rattle.afdx_rows.proofs.Columns.{names_in}
use Rattle.afdx_rows.proofs.delayed.put_buffers.Given as goal

abbrev pub invariant-loop-row : goal.invariant-loop-row
invariant-loop-row g l =
    (l.row-items ≡ l.measures.run.table.ports) × (string_bytes l.initial.text ++ flat_map (port_row_of (names_in l.columns) l.switch l.measures.run) l.row-items
    ≡ string_bytes l.text ++ flat_map (port_row_of (names_in l.columns) l.switch l.measures.run) (drop l.row-index l.row-items))
