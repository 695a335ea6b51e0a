use Rattle.std.proofs.Common.{◌≡◌, ◌++◌, ℕ, List, codes, drop, map, string_bytes, Bor}
use Rattle.std.specs.Prelude.{flat_map}
use Rattle.afdx_csv.specs.declared.field.Field.{Field}
use Rattle.afdx_csv.specs.Csv.{text_of, field_at}
use Rattle.afdx_csv.proofs.rows.put_row.Given as goal

-- the fields by the names of their columns, as they are written
abbrev written : List (Bor (List ℕ) × Field) → List (List ℕ × List ℕ)
written = map (λ f. (f.0.now, text_of f.1))

-- those of columns that are not the first
abbrev next_fields : List (Bor (List ℕ) × Field) → List (Bor (List ℕ)) → List ℕ
next_fields fields names = flat_map (λ (next : List ℕ). codes "," ++ next) (map (field_at (written fields)) (map {A = Bor (List ℕ)} {B = List ℕ} (λ name. name.now) names))

abbrev pub invariant-loop-name : goal.invariant-loop-name
invariant-loop-name g l = string_bytes l.initial.text ++ next_fields l.fields l.others ≡ string_bytes l.text ++ next_fields l.fields (drop l.name-index l.others)
