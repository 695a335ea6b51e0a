use Rattle.std.proofs.Common.{◌++◌, ◌∙◌, ℕ, List, map, string_bytes, ap}
use Rattle.std.specs.Prelude.{flat_map}
use Rattle.afdx_csv.specs.Csv.{heading}
use Rattle.afdx_network_report.specs.Rows.{need_columns, need_row}
use Rattle.afdx_network_report.proofs.rows.needs_rows.Goals as goal

pub returns : goal.returns
returns c =
    let rows = flat_map (need_row (map string_bytes c.args.names.now)) c.args.rows.now in
    let begun = c.in_ok-put_heading.ensures ∙ ap (λ (text : List ℕ). text ++ heading need_columns) c.new-text.ensures.bytes in
    c.in_ok-put_needs.ensures ∙ ap (λ (text : List ℕ). text ++ rows) begun
