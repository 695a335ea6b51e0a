use Rattle.std.proofs.Common.{◌≡◌, ◌++◌, drop, flat_map, string_bytes}
use Rattle.afdx_compare.specs.Differences.{row_line}
use Rattle.afdx_compare.proofs.columns.put_rows.Given as goal

abbrev pub invariant-loop-row : goal.invariant-loop-row
invariant-loop-row g l = string_bytes l.initial.text ++ flat_map (row_line l.offset l.port) l.rows ≡ string_bytes l.text ++ flat_map (row_line l.offset l.port) (drop l.row-index l.rows)
