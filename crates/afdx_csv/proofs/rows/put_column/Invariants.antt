use Rattle.std.proofs.Common.{◌≡◌, List, ℕ, drop, map, string_bytes, Bor}
use Rattle.afdx_csv.specs.declared.field.Field.{Field}
use Rattle.afdx_csv.specs.Csv.{text_of, field_at}
use Rattle.afdx_csv.proofs.rows.put_column.Given as goal

-- a field by the name of its column, as it is written
abbrev written : Bor (List ℕ) × Field → List ℕ × List ℕ
written f = (f.0.now, text_of f.1)

abbrev pub invariant-loop-column : goal.invariant-loop-column
invariant-loop-column g l = record {
  left : field_at (map written l.fields) l.name ≡ field_at (map written (drop l.column-index l.fields)) l.name;
  same : string_bytes l.text ≡ string_bytes l.initial.text;
}
