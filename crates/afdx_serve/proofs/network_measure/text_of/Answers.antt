use Rattle.std.proofs.Common.{◌∙◌, ◌++◌, ℕ, List, Vec, Global, map, string_bytes, ap}
use Rattle.afdx_rows.specs.Delays.{network_measure_columns}
use Rattle.afdx_serve.specs.NetworkMeasures.{buffers_in}
use Rattle.afdx_serve.proofs.network_measure.text_of.Goals as goal

pub returns : goal.returns
returns c =
    let lines = string_bytes c.in_ok-lines.lines in
    let buffers = buffers_in c.args.form network_measure_columns (map string_bytes c.args.names.now) c.args.watched.switches.items in
    let headed = ap (λ (v : Vec ℕ Global). v.items) c.into_bytes-text.ensures.value ∙ c.in_ok-heading.ensures in
    let ends = rw c.as_bytes.ensures.value at c.in_ok-extend_from_slice.ensures.items ∙ ap (λ (t : List ℕ). t ++ lines) headed in
    (lines, c.in_ok-lines.ensures, c.in_ok-put_all_buffers.ensures ∙ ap (λ (t : List ℕ). t ++ buffers) ends)
