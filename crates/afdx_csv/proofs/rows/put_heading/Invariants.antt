use Rattle.std.proofs.Common.{◌≡◌, ◌++◌, ℕ, List, codes, drop, map, string_bytes, Bor}
use Rattle.std.specs.Prelude.{flat_map}
use Rattle.afdx_csv.proofs.rows.put_heading.Given as goal

abbrev pub invariant-loop-name : goal.invariant-loop-name
invariant-loop-name g l =
    string_bytes l.initial.text ++ flat_map (λ (next : List ℕ). codes "," ++ next) (map {A = Bor (List ℕ)} {B = List ℕ} (λ name. name.now) l.others)
    ≡ string_bytes l.text ++ flat_map (λ (next : List ℕ). codes "," ++ next) (map {A = Bor (List ℕ)} {B = List ℕ} (λ name. name.now) (drop l.name-index l.others))
