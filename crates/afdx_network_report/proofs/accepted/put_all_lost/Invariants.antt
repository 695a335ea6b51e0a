use Rattle.std.proofs.Common.{◌≡◌, ◌++◌, drop, map, string_bytes}
use Rattle.std.specs.Prelude.{flat_map}
use Rattle.afdx_network_check.specs.declared.ways.Way.{Way}
use Rattle.afdx_wiring.specs.Lines.{as_line}
use Rattle.afdx_network_report.specs.Lines.{lost_text}
use Rattle.afdx_network_report.proofs.accepted.put_all_lost.Given as goal

abbrev pub invariant-loop-way : goal.invariant-loop-way
invariant-loop-way l = string_bytes l.initial.text ++ flat_map (λ (w : Way). as_line (lost_text (map string_bytes l.names) w)) l.ways
    ≡ string_bytes l.text ++ flat_map (λ (w : Way). as_line (lost_text (map string_bytes l.names) w)) (drop l.way-index l.ways)
