use Rattle.std.proofs.Common.{ℕ, List, [], ◌++◌, ◌∙◌, ap}
use Rattle.afdx_csv.specs.Csv.{heading}
use Rattle.afdx_rows.specs.Counts.{run_columns, counts_rows}
use Rattle.afdx_serve.proofs.reports.counts_rows.Goals as goal

pub returns : goal.returns
returns c =
    let headed = c.in_ok-put_heading.ensures ∙ ap (λ (t : List ℕ). t ++ heading run_columns) c.new-text.ensures.bytes in
    c.in_ok-put_counts.ensures ∙ ap (λ (t : List ℕ). t ++ counts_rows run_columns [] c.args.counts.now) headed
