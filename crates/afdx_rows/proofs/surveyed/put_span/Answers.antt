use Rattle.std.proofs.Common.{◌≡◌, ◌++◌, ◌∙◌, ℕ, List, [], ◌∷◌, codes, decimal, string_bytes, Option, ap, subst}
use Rattle.std.specs.Prelude.{OnOk}
use Rattle.afdx_csv.specs.declared.field.Field.TheVariants.{Number}
use Rattle.afdx_csv.specs.Csv.{text_of, row}
use Rattle.afdx_rows.proofs.Columns.{names_in}
use Rattle.afdx_rows.proofs.surveyed.put_span.Goals as goal

pub returns : goal.returns
returns g c =
    let first = c.stamp.ensures ∙ ap (λ (o : Option ℕ). Number o) c.first.ensures in
    let last = c.stamp-2.ensures ∙ ap (λ (o : Option ℕ). Number o) c.last.ensures in
    subst (λ (fields : List (List ℕ × List ℕ)). OnOk c.put_row.result (string_bytes c.put_row.new.text ≡ string_bytes c.args.text.now ++ row (names_in c.args.columns.now) fields))
    (λ i. (codes "switch", c.args.switch.now) ∷ (codes "kind", codes "span") ∷ (c.args.stamp_columns.0.now, text_of (first i)) ∷ (c.args.stamp_columns.1.now, text_of (last i))
    ∷ (codes "frames", decimal (c.frames.ensures i)) ∷ [])
    c.put_row.ensures
