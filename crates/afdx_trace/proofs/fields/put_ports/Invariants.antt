use Rattle.std.proofs.Common.{◌≡◌, ◌++◌, ℕ, List, codes, decimal, map, drop, string_bytes}
use Rattle.std.specs.Prelude.{flat_map}
use Rattle.afdx_trace.proofs.fields.put_ports.Given as goal

abbrev pub invariant-loop-port : goal.invariant-loop-port
invariant-loop-port g l = string_bytes l.initial.text ++ flat_map (λ (next : List ℕ). codes ";" ++ next) (map decimal l.others)
    ≡ string_bytes l.text ++ flat_map (λ (next : List ℕ). codes ";" ++ next) (map decimal (drop l.port-index l.others))
