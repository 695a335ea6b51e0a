-- What is reported of a network as comma-separated values (profile). No name has a comma, a quote or a line feed: a switch's has letters,
-- digits, `-` and `_` alone.
use Rattle.std.specs.Prelude.{ℕ, codes, decimal, List, [], ◌∷◌, ◌++◌, map, flat_map, Option}
use Rattle.std.specs.Option.{option_map, option_map_or}
use Rattle.afdx_measure.specs.declared.delays.Delays.{Delays}
use Rattle.afdx_measure.specs.Delays.{least_of, greatest_of}
use Rattle.afdx_wiring.specs.declared.layout.End.{End}
use Rattle.afdx_network_check.specs.declared.ways.Way.{Way}
use Rattle.afdx_network_check.specs.declared.jitters.RowNeed.{RowNeed}
use Rattle.afdx_csv.specs.Csv.{optional, heading, row}
use Rattle.afdx_csv.specs.Slack.{slack_text, share_text}
use Rattle.afdx_network_report.specs.Lines.{Names, name_of, end_text, last_end}
use Rattle.afdx_network_report.specs.declared.link_ends.LinkEnd.{LinkEnd}

-- texts with semicolons between them
abbrev pub joined : List (List ℕ) → List ℕ
joined [] = []
joined (text ∷ texts) = text ++ flat_map (λ next. codes ";" ++ next) texts

-- ---- ways

-- the columns of ways
abbrev pub way_columns : List (List ℕ)
way_columns = codes "link" ∷ codes "from" ∷ codes "to" ∷ codes "ways" ∷ codes "least" ∷ codes "most" ∷ codes "jitter" ∷ []

-- the row of a way, with these texts for its ends, its ports and its jitters
abbrev pub fields_row : List ℕ → List ℕ → List ℕ → List ℕ → Way → List ℕ
fields_row from to ways jitter w = row way_columns ((codes "link", decimal w.link) ∷ (codes "from", from) ∷ (codes "to", to) ∷ (codes "ways", ways)
    ∷ (codes "least", decimal w.delays.least) ∷ (codes "most", decimal w.delays.most) ∷ (codes "jitter", jitter) ∷ [])

-- where a link comes in and where it leads out, the output ports on its way, what a frame takes at least and at most in nanoseconds,
-- and the jitter in microseconds that it needs at each switch
abbrev pub way_row : Names → Way → List ℕ
way_row names w =
    fields_row (end_text names w.from) (end_text names (last_end w)) (joined (map (end_text names) w.ports.items)) (joined (map decimal w.jitters.items)) w

-- nothing comes to the end of this way
abbrev pub lost_row : Names → Way → List ℕ
lost_row names w = row way_columns ((codes "link", decimal w.link) ∷ (codes "to", end_text names (last_end w)) ∷ [])

-- the rows of ways, and then of those over which nothing comes
abbrev pub ways_rows : Names → (ways lost : List Way) → List ℕ
ways_rows names ways lost = heading way_columns ++ flat_map (way_row names) ways ++ flat_map (lost_row names) lost

-- ---- jitters

-- the columns of jitters
abbrev pub need_columns : List (List ℕ)
need_columns = codes "switch" ∷ codes "link" ∷ codes "jitter_us" ∷ []

-- the jitter in microseconds that a row of a switch's table needs
abbrev pub need_row : Names → RowNeed → List ℕ
need_row names r = row need_columns ((codes "switch", name_of names r.switch) ∷ (codes "link", decimal r.link) ∷ (codes "jitter_us", decimal r.need) ∷ [])

-- the heading, and the needs of all rows
abbrev pub needs_rows : Names → List RowNeed → List ℕ
needs_rows names rows = heading need_columns ++ flat_map (need_row names) rows

-- ---- delays from end to end

-- the least delay that is promised, in ns
abbrev pub least_bound : LinkEnd → Option ℕ
least_bound e = option_map (λ b. b.least) e.bounds

-- the greatest delay that is promised, in ns
abbrev pub bound_of : LinkEnd → Option ℕ
bound_of e = option_map (λ b. b.most) e.bounds

-- where frames come in, or nothing
abbrev pub come_in_field : Names → Option End → List ℕ
come_in_field names from = option_map_or (end_text names) from []

-- under some columns, between these ports: how many frames left, what they took in nanoseconds, what they may take, and what the greatest left of
-- that, in nanoseconds and per mille
abbrev pub end_fields : List (List ℕ) → List ℕ → List ℕ → LinkEnd → Delays → List ℕ
end_fields columns from to e d = row columns ((codes "kind", codes "way") ∷ (codes "link", decimal e.link) ∷ (codes "from", from) ∷ (codes "to", to)
    ∷ (codes "sent", decimal d.count) ∷ (codes "least", optional (least_of d)) ∷ (codes "greatest", optional (greatest_of d))
    ∷ (codes "least_bound", optional (least_bound e)) ∷ (codes "bound", optional (bound_of e))
    ∷ (codes "slack", slack_text (greatest_of d) (bound_of e)) ∷ (codes "slack_per_mille", share_text (greatest_of d) (bound_of e)) ∷ [])

-- the row of a link and a port at which it leads out of the network
abbrev pub link_end_row : List (List ℕ) → Names → LinkEnd → Delays → List ℕ
link_end_row columns names e d = end_fields columns (come_in_field names e.from) (end_text names e.to) e d
