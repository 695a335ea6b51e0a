use Rattle.std.proofs.Common.{◌≡◌, ◌++◌, ℕ, List, [], ◌∷◌, codes, decimal, string_bytes, subst}
use Rattle.std.specs.Prelude.{OnOk}
use Rattle.afdx_csv.specs.Csv.{text_of, row}
use Rattle.afdx_rows.proofs.Columns.{names_in}
use Rattle.afdx_rows.proofs.surveyed.put_spell.Goals as goal

pub returns : goal.returns
returns g c =
    subst (λ (fields : List (List ℕ × List ℕ)). OnOk c.put_row.result (string_bytes c.put_row.new.text ≡ string_bytes c.args.text.now ++ row (names_in c.args.columns.now) fields))
    (λ i. (codes "switch", c.args.switch.now) ∷ (codes "kind", codes "spell") ∷ (codes "link", decimal (c.from.ensures i)) ∷ (codes "policed", text_of (c.of.ensures i))
    ∷ (c.args.stamp_columns.0.now, text_of (c.stamp.ensures i)) ∷ (c.args.stamp_columns.1.now, text_of (c.stamp-2.ensures i)) ∷ (codes "least_early", text_of (c.of-2.ensures i))
    ∷ (codes "greatest_early", text_of (c.of-3.ensures i)) ∷ [])
    c.put_row.ensures
