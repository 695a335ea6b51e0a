use Rattle.std.proofs.Common.{◌≡◌, ◌++◌, drop, map, string_bytes}
use Rattle.std.specs.Prelude.{flat_map}
use Rattle.afdx_network_report.specs.Rows.{lost_row}
use Rattle.afdx_network_report.proofs.rows.put_all_lost.Given as goal

abbrev pub invariant-loop-way : goal.invariant-loop-way
invariant-loop-way l = string_bytes l.initial.text ++ flat_map (lost_row (map string_bytes l.names)) l.ways
    ≡ string_bytes l.text ++ flat_map (lost_row (map string_bytes l.names)) (drop l.way-index l.ways)
