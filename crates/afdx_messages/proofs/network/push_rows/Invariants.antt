use Rattle.std.proofs.Common.{◌≡◌, ◌++◌, drop, map, flat_map, string_bytes}
use Rattle.afdx_messages.specs.Lines.{row_line}
use Rattle.afdx_messages.proofs.network.push_rows.Given as goal

abbrev pub invariant-loop-short : goal.invariant-loop-short
invariant-loop-short l =
    string_bytes l.lines ++ flat_map (row_line l.rule (map string_bytes l.names)) (drop l.short-index l.shorts)
    ≡ string_bytes l.initial.lines ++ flat_map (row_line l.rule (map string_bytes l.names)) l.shorts
