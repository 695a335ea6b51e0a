use Rattle.std.proofs.Common.{◌≡◌, ◌++◌, ℕ, List, codes, decimal, drop, map, string_bytes}
use Rattle.std.specs.Prelude.{flat_map}
use Rattle.afdx_network_report.proofs.rows.numbers_field.Given as goal

abbrev pub invariant-loop-number : goal.invariant-loop-number
invariant-loop-number l =
    string_bytes l.initial.text ++ flat_map (λ (next : List ℕ). codes ";" ++ next) (map decimal l.others)
    ≡ string_bytes l.text ++ flat_map (λ (next : List ℕ). codes ";" ++ next) (map decimal (drop l.number-index l.others))
