use Rattle.std.proofs.Common.{◌≡◌, ◌++◌, ◌∙◌, ℕ, List, [], ◌∷◌, codes, decimal, string_bytes, ap, subst}
use Rattle.std.specs.Prelude.{OnOk}
use Rattle.afdx_csv.specs.Csv.{row}
use Rattle.afdx_compare.specs.Comparison.{Port}
use Rattle.afdx_compare.specs.ReportRows.{report_columns}
use Rattle.afdx_compare.proofs.report_rows.put_port_row.Goals as goal

pub returns : goal.returns
returns g c =
    let seen = c.from-2.ensures ∙ ap (λ (p : Port). p.seen) c.port.view_is in
    let foreign = c.from-3.ensures ∙ ap (λ (p : Port). p.foreign) c.port.view_is in
    subst (λ (fields : List (List ℕ × List ℕ)). OnOk c.put_row.result (string_bytes c.put_row.new.text ≡ string_bytes c.args.text.now ++ row report_columns fields))
    (λ i. (codes "kind", codes "out") ∷ (codes "port", decimal (c.from.ensures i)) ∷ (codes "seen", decimal (seen i)) ∷ (codes "foreign", decimal (foreign i)) ∷ [])
    c.put_row.ensures
