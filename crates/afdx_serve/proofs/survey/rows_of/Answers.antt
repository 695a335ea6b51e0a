use Rattle.std.proofs.Common.{ℕ, List, [], ◌++◌, ◌∙◌, ap}
use Rattle.afdx_csv.specs.Csv.{heading}
use Rattle.afdx_rows.specs.Counts.{counts_rows}
use Rattle.afdx_rows.specs.Spells.{survey_columns, survey_rows}
use Rattle.afdx_serve.proofs.survey.rows_of.Goals as goal

pub returns : goal.returns
returns c =
    let headed = c.in_ok-put_heading.ensures ∙ ap (λ (t : List ℕ). t ++ heading survey_columns) c.new-text.ensures.bytes in
    let counted = c.in_ok-put_counts.ensures ∙ ap (λ (t : List ℕ). t ++ counts_rows survey_columns [] c.args.counts.now) headed in
    c.in_ok-put_survey.ensures ∙ ap (λ (t : List ℕ). t ++ survey_rows survey_columns c.args.promised c.args.survey.now.run) counted
