use Rattle.std.proofs.Common.{◌≡◌, ◌++◌, ℕ, List, codes, drop, map, string_bytes}
use Rattle.std.specs.Prelude.{flat_map}
use Rattle.afdx_network_report.specs.Lines.{end_text}
use Rattle.afdx_network_report.proofs.rows.ends_field.Given as goal

abbrev pub invariant-loop-end : goal.invariant-loop-end
invariant-loop-end l =
    string_bytes l.initial.text ++ flat_map (λ (next : List ℕ). codes ";" ++ next) (map (end_text (map string_bytes l.names)) l.others)
    ≡ string_bytes l.text ++ flat_map (λ (next : List ℕ). codes ";" ++ next) (map (end_text (map string_bytes l.names)) (drop l.end-index l.others))
