use Rattle.std.proofs.Common.{◌≡◌, ◌++◌, List, ℕ, codes, drop, map, string_bytes}
use Rattle.std.specs.Prelude.{flat_map}
use Rattle.afdx_wiring.specs.Lines.{as_line}
use Rattle.afdx_network_report.proofs.accepted.put_switches.Given as goal

abbrev pub invariant-loop-name : goal.invariant-loop-name
invariant-loop-name l = string_bytes l.initial.text ++ flat_map (λ (name : List ℕ). as_line (codes "switch " ++ name ++ codes " accepted")) (map string_bytes l.names)
    ≡ string_bytes l.text ++ flat_map (λ (name : List ℕ). as_line (codes "switch " ++ name ++ codes " accepted")) (map string_bytes (drop l.name-index l.names))
