use Rattle.std.proofs.Common.{◌≡◌, ◌++◌, ℕ, List, [], ◌∷◌, codes, decimal, string_bytes, subst}
use Rattle.std.specs.Prelude.{OnOk}
use Rattle.afdx_csv.specs.Csv.{row}
use Rattle.afdx_network_report.specs.Rows.{need_columns}
use Rattle.afdx_network_report.proofs.rows.put_need.Goals as goal

pub returns : goal.returns
returns c =
    subst (λ (fields : List (List ℕ × List ℕ)). OnOk c.put_row.result (string_bytes c.put_row.new.text ≡ string_bytes c.args.text.now ++ row need_columns fields))
    (λ i. (codes "switch", c.name_of.ensures i) ∷ (codes "link", decimal (c.from.ensures i)) ∷ (codes "jitter_us", decimal (c.from-2.ensures i)) ∷ [])
    c.put_row.ensures
