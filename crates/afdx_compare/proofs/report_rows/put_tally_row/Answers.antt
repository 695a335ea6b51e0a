use Rattle.std.proofs.Common.{◌≡◌, ◌++◌, ◌∙◌, ℕ, List, [], ◌∷◌, codes, decimal, string_bytes, Some, subst}
use Rattle.std.specs.Prelude.{OnOk}
use Rattle.afdx_csv.specs.Csv.{optional, row}
use Rattle.afdx_csv.specs.Slack.{slack_text, share_text}
use Rattle.afdx_compare.specs.ReportRows.{report_columns}
use Rattle.afdx_compare.proofs.report_rows.put_tally_row.Goals as goal

pub returns : goal.returns
returns g c =
    let bound = c.from-bound.ensures in
    let left = c.slack.ensures ∙ (λ i. slack_text (c.greatest_of.ensures i) (Some (bound i))) in
    let share = c.slack_per_mille.ensures ∙ (λ i. share_text (c.greatest_of-2.ensures i) (Some (bound i))) in
    subst (λ (fields : List (List ℕ × List ℕ)). OnOk c.put_row.result (string_bytes c.put_row.new.text ≡ string_bytes c.args.text.now ++ row report_columns fields))
    (λ i. (codes "kind", codes "link") ∷ (codes "link", decimal (c.from.ensures i)) ∷ (codes "port", decimal (c.from-2.ensures i)) ∷ (codes "passed", decimal (c.passed.ensures i))
    ∷ (codes "seen", decimal (c.seen.ensures i)) ∷ (codes "missing", decimal (c.from-3.ensures i)) ∷ (codes "extra", decimal (c.from-4.ensures i))
    ∷ (codes "early", decimal (c.from-5.ensures i)) ∷ (codes "late", decimal (c.from-6.ensures i)) ∷ (codes "before", decimal (c.from-7.ensures i))
    ∷ (codes "after", decimal (c.from-8.ensures i)) ∷ (codes "unsure", decimal (c.from-9.ensures i)) ∷ (codes "least", optional (c.least.ensures i))
    ∷ (codes "greatest", optional (c.greatest.ensures i)) ∷ (codes "bound", decimal (bound i)) ∷ (codes "slack", left i) ∷ (codes "slack_per_mille", share i) ∷ [])
    c.put_row.ensures
