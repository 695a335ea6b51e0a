-- What is reported of a comparison, as rows (profile).
use Rattle.std.specs.Prelude.{ℕ, min, Bool, codes, decimal, List, [], ◌∷◌, Option, Some, if◌then◌else◌}
use Rattle.std.specs.Option.{option_map}
use Rattle.afdx_table.specs.declared.rows.PortRow.{PortRow}
use Rattle.afdx_following.specs.declared.tally.Tally.{Tally}
use Rattle.afdx_following.specs.Tally.{passed_in, seen_in}
use Rattle.afdx_following.specs.Output.{Output}
use Rattle.afdx_csv.specs.Csv.{optional, heading, row}
use Rattle.afdx_csv.specs.Slack.{slack_text, share_text}
use Rattle.afdx_compare.specs.Comparison.{Port}

-- the columns of all kinds of rows: what a row does not say is left empty
abbrev pub report_columns : List (List ℕ)
report_columns = codes "kind" ∷ codes "link" ∷ codes "port" ∷ codes "passed" ∷ codes "seen" ∷ codes "missing" ∷ codes "extra" ∷ codes "early" ∷ codes "late"
    ∷ codes "before" ∷ codes "after" ∷ codes "unsure" ∷ codes "least" ∷ codes "greatest" ∷ codes "bound" ∷ codes "slack" ∷ codes "slack_per_mille"
    ∷ codes "foreign" ∷ codes "from" ∷ codes "until" ∷ codes "verdict" ∷ []

-- the first line, with their names
abbrev pub report_heading : List ℕ
report_heading = heading report_columns

-- from when to when the recordings were
abbrev pub span_row : ℕ → ℕ → List ℕ
span_row from until = row report_columns ((codes "kind", codes "span") ∷ (codes "from", decimal from) ∷ (codes "until", decimal until) ∷ [])

-- the greatest delay as a number of 64 bits, which can hold each delay between two stamps
abbrev pub greatest_of : Tally → Option ℕ
greatest_of t = option_map (λ r. min r.greatest 18446744073709551615) t.delays

-- how many frames and records of a link at a port are of which kind, the delays of its pairs beside the port's bound, in nanoseconds, and what
-- they left of it
abbrev pub tally_row : (link port unsure bound : ℕ) → Tally → List ℕ
tally_row link port unsure bound t =
    row report_columns ((codes "kind", codes "link") ∷ (codes "link", decimal link) ∷ (codes "port", decimal port) ∷ (codes "passed", decimal (passed_in t))
    ∷ (codes "seen", decimal (seen_in t)) ∷ (codes "missing", decimal t.missing) ∷ (codes "extra", decimal t.extra) ∷ (codes "early", decimal t.early)
    ∷ (codes "late", decimal t.late) ∷ (codes "before", decimal t.before) ∷ (codes "after", decimal t.after) ∷ (codes "unsure", decimal unsure)
    ∷ (codes "least", optional (option_map (λ r. r.least) t.delays)) ∷ (codes "greatest", optional (option_map (λ r. r.greatest) t.delays))
    ∷ (codes "bound", decimal bound) ∷ (codes "slack", slack_text (greatest_of t) (Some bound)) ∷ (codes "slack_per_mille", share_text (greatest_of t) (Some bound)) ∷ [])

-- the row of a link at a port, of what was found out there
abbrev pub output_row : ℕ → ℕ → Output → List ℕ
output_row link unsure o = tally_row link o.port unsure o.limits.bound o.found.tally

-- how many records count at an output port that was recorded, and how many of these are of no link that leads there
abbrev pub port_row : PortRow → Port → List ℕ
port_row p seen = row report_columns ((codes "kind", codes "out") ∷ (codes "port", decimal p.id) ∷ (codes "seen", decimal seen.seen)
    ∷ (codes "foreign", decimal seen.foreign) ∷ [])

-- the word for whether nothing speaks against the switch
abbrev pub verdict_word : Bool → List ℕ
verdict_word conforms = if conforms then codes "conforms" else codes "differs"

-- the row of the verdict, which is the last
abbrev pub verdict_row : Bool → List ℕ
verdict_row conforms = row report_columns ((codes "kind", codes "verdict") ∷ (codes "verdict", verdict_word conforms) ∷ [])
