use Rattle.std.proofs.Common.{ℕ, List, ◌++◌, ◌∙◌, ap}
use Rattle.afdx_csv.specs.Csv.{heading}
use Rattle.afdx_rows.specs.Delays.{measure_columns, measures_rows}
use Rattle.afdx_serve.proofs.measure.measures_rows.Goals as goal

pub returns : goal.returns
returns c =
    let headed = c.in_ok-put_heading.ensures ∙ ap (λ (t : List ℕ). t ++ heading measure_columns) c.new-text.ensures.bytes in
    c.in_ok-put_measures.ensures ∙ ap (λ (t : List ℕ). t ++ measures_rows measure_columns c.args.promised c.args.measures.now.run) headed
