use Rattle.std.proofs.Common.{◌≡◌, ◌++◌, ◌∙◌, ℕ, List, [], ◌∷◌, codes, decimal, string_bytes, subst}
use Rattle.std.specs.Prelude.{OnOk}
use Rattle.afdx_csv.specs.Csv.{row}
use Rattle.afdx_compare.specs.ReportRows.{report_columns}
use Rattle.afdx_compare.proofs.report_rows.put_span_row.Goals as goal

pub returns : goal.returns
returns g c =
    let from = c.from.ensures ∙ c.ns.ensures.same in
    let until = c.from-2.ensures ∙ c.ns-2.ensures.same in
    subst (λ (fields : List (List ℕ × List ℕ)). OnOk c.put_row.result (string_bytes c.put_row.new.text ≡ string_bytes c.args.text.now ++ row report_columns fields))
    (λ i. (codes "kind", codes "span") ∷ (codes "from", decimal (from i)) ∷ (codes "until", decimal (until i)) ∷ [])
    c.put_row.ensures
