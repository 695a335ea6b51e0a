use Rattle.std.proofs.Common.{◌≡◌, ◌++◌, drop, map, string_bytes}
use Rattle.std.specs.Prelude.{flat_map}
use Rattle.afdx_network_report.specs.Rows.{need_row}
use Rattle.afdx_network_report.proofs.rows.put_needs.Given as goal

abbrev pub invariant-loop-row : goal.invariant-loop-row
invariant-loop-row l = string_bytes l.initial.text ++ flat_map (need_row (map string_bytes l.names)) l.rows
    ≡ string_bytes l.text ++ flat_map (need_row (map string_bytes l.names)) (drop l.row-index l.rows)
