-- What is reported of a comparison as text (profile), in lines or as comma-separated values.
use Rattle.std.specs.Prelude.{ℕ, ◌+◌, Bool, codes, List, [], ◌∷◌, ◌++◌, flat_map, Option, Some, None, slice_get, if◌then◌else◌}
use Rattle.std.specs.Option.{option_map}
use Rattle.afdx_table.specs.declared.rows.PortRow.{PortRow}
use Rattle.afdx_table.specs.Link.{Link}
use Rattle.afdx_following.specs.Tally.{passed_in, seen_in}
use Rattle.afdx_following.specs.Output.{Output}
use Rattle.afdx_following.specs.Watched.{Watched}
use Rattle.afdx_lines.specs.Lines.{line}
use Rattle.afdx_csv.specs.declared.form.Form.{Form}
use Rattle.afdx_csv.specs.declared.form.Form.TheVariants.{Lines, Csv}
use Rattle.afdx_recordings.specs.declared.recordings.Recordings.{Recordings}
use Rattle.afdx_recordings.specs.declared.outputs.Outputs.{Outputs}
use Rattle.afdx_recordings.specs.Recordings.{is_recorded}
use Rattle.afdx_compare.specs.Comparison.{Port, Comparison, conform}
use Rattle.afdx_compare.specs.ReportRows.{output_row, port_row, span_row, verdict_word, verdict_row, report_heading}

-- how many frames and records of a link at a port are of which kind, and the delays of its pairs beside the port's bound, in nanoseconds
abbrev pub output_line : ℕ → ℕ → Output → List ℕ
output_line link unsure o =
    let t = o.found.tally in
    line ((codes "link ", Some link) ∷ (codes " out ", Some o.port) ∷ (codes " passed ", Some (passed_in t)) ∷ (codes " seen ", Some (seen_in t))
    ∷ (codes " missing ", Some t.missing) ∷ (codes " extra ", Some t.extra) ∷ (codes " early ", Some t.early) ∷ (codes " late ", Some t.late)
    ∷ (codes " before ", Some t.before) ∷ (codes " after ", Some t.after) ∷ (codes " unsure ", Some unsure)
    ∷ (codes " least ", option_map (λ r. r.least) t.delays) ∷ (codes " greatest ", option_map (λ r. r.greatest) t.delays) ∷ (codes " bound ", Some o.limits.bound) ∷ [])

-- what is reported of a link at a port, in either form
abbrev pub output_text : Form → ℕ → ℕ → Output → List ℕ
output_text Lines = output_line
output_text Csv = output_row

-- the text of a link, by its ports
abbrev pub link_text : Form → ℕ → Watched → List ℕ
link_text form link f = flat_map (output_text form link f.unsure) f.outputs

-- the text of the link at a place of the table
abbrev pub row_text : Form → Option Link → Watched → List ℕ
row_text form None f = []
row_text form (Some l) f = link_text form l.id f

-- the texts of links that are in the table from this place on
abbrev pub links_from : Form → List Link → ℕ → List Watched → List ℕ
links_from form ls place [] = []
links_from form ls place (f ∷ fs) = row_text form (slice_get ls place) f ++ links_from form ls (place + 1) fs

-- how many records count at an output port that was recorded, and how many of these are of no link that leads there
abbrev pub port_line : PortRow → Port → List ℕ
port_line row p = line ((codes "out ", Some row.id) ∷ (codes " seen ", Some p.seen) ∷ (codes " foreign ", Some p.foreign) ∷ [])

-- what is reported of an output port, in either form
abbrev pub port_text : Form → PortRow → Port → List ℕ
port_text Lines = port_line
port_text Csv = port_row

-- what is reported of a port: nothing, unless what left there was recorded
abbrev pub recorded_text : Form → Outputs → PortRow → Port → List ℕ
recorded_text form recorded row p = if is_recorded recorded row.id then port_text form row p else []

-- what is reported of the port in this row of the table, if there is one
abbrev pub port_row_text : Form → Outputs → Option PortRow → Port → List ℕ
port_row_text form recorded None p = []
port_row_text form recorded (Some row) p = recorded_text form recorded row p

-- the text of ports that are in the table from this place on
abbrev pub ports_from : Form → Outputs → List PortRow → ℕ → List Port → List ℕ
ports_from form recorded rows place [] = []
ports_from form recorded rows place (p ∷ ps) = port_row_text form recorded (slice_get rows place) p ++ ports_from form recorded rows (place + 1) ps

-- from when to when the recordings were
abbrev pub span_line : ℕ → ℕ → List ℕ
span_line from until = line ((codes "span ", Some from) ∷ (codes " to ", Some until) ∷ [])

-- the span in either form: as values it comes after the heading
abbrev pub span_text : Form → ℕ → ℕ → List ℕ
span_text Lines from until = span_line from until
span_text Csv from until = report_heading ++ span_row from until

-- the line of the verdict: conforms, or differs
abbrev pub verdict_line : Bool → List ℕ
verdict_line conforms = verdict_word conforms ++ codes "\n"

-- the verdict in either form
abbrev pub verdict_text : Form → Bool → List ℕ
verdict_text Lines = verdict_line
verdict_text Csv = verdict_row

-- the span, each link at each of its output ports that were recorded, each of these ports, and the verdict
abbrev pub report_of : Form → Recordings → ℕ → ℕ → Comparison → List ℕ
report_of form r from until c =
    span_text form from until ++ links_from form c.table.links 0 c.links ++ ports_from form r.outputs c.table.ports 0 c.ports ++ verdict_text form (conform c)
