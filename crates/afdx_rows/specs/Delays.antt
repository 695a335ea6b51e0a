-- The delays of links, and how full buffers were, as rows (profile).
use Rattle.std.specs.Prelude.{ℕ, codes, decimal, ◌++◌, Bool, List, [], ◌∷◌, flat_map, Option}
use Rattle.std.specs.Option.{option_map, option_map_or}
use Rattle.afdx_table.specs.declared.rows.PortRow.{PortRow}
use Rattle.afdx_table.specs.Link.{Link}
use Rattle.afdx_table.specs.Content.{port_row}
use Rattle.afdx_core.specs.State.{Run, sent_in}
use Rattle.afdx_measure.specs.declared.delays.Delays.{Delays}
use Rattle.afdx_measure.specs.declared.filling.Filling.{Filling}
use Rattle.afdx_measure.specs.Delays.{delays_of, summary_of, least_of, greatest_of}
use Rattle.afdx_measure.specs.Ports.{peak_at}
use Rattle.afdx_measure.specs.Report.{bound_at}
use Rattle.afdx_csv.specs.Csv.{optional, row}
use Rattle.afdx_csv.specs.Slack.{slack_text, share_text}

-- the columns of what is measured of a switch: delays in ns, bytes of buffers, and stamps in ns
abbrev pub measure_columns : List (List ℕ)
measure_columns = codes "kind" ∷ codes "link" ∷ codes "port" ∷ codes "sent" ∷ codes "least" ∷ codes "greatest" ∷ codes "bound" ∷ codes "slack"
    ∷ codes "slack_per_mille" ∷ codes "occupied" ∷ codes "buffer" ∷ codes "at" ∷ []

-- the columns of a network's delays: what is said of an end of a link, between two ports, and then of a buffer
abbrev pub end_columns : List (List ℕ)
end_columns = codes "least" ∷ codes "greatest" ∷ codes "least_bound" ∷ codes "bound" ∷ codes "slack" ∷ codes "slack_per_mille" ∷ codes "occupied"
    ∷ codes "buffer" ∷ codes "at" ∷ []

-- the columns of what is measured of a network: a way has two ports, a buffer one
abbrev pub network_measure_columns : List (List ℕ)
network_measure_columns = codes "switch" ∷ codes "kind" ∷ codes "port" ∷ codes "link" ∷ codes "from" ∷ codes "to" ∷ codes "sent" ∷ end_columns

-- ---- rows under some columns

-- the delays of a link's copies at a port, in nanoseconds, beside the port's bound for the link's priority, and what they left of it
abbrev pub delays_row : List (List ℕ) → ℕ → ℕ → Delays → Option ℕ → List ℕ
delays_row columns link port d bound = row columns ((codes "kind", codes "delays") ∷ (codes "link", decimal link) ∷ (codes "port", decimal port)
    ∷ (codes "sent", decimal d.count) ∷ (codes "least", optional (least_of d)) ∷ (codes "greatest", optional (greatest_of d)) ∷ (codes "bound", optional bound)
    ∷ (codes "slack", slack_text (greatest_of d) bound) ∷ (codes "slack_per_mille", share_text (greatest_of d) bound) ∷ [])

-- how full the buffer of a port of the switch of this name was, in bytes, beside what it has, and the stamp of the first admission that reached it
abbrev pub buffer_row : List (List ℕ) → List ℕ → ℕ → ℕ → Option Filling → List ℕ
buffer_row columns switch port buffer peak = row columns ((codes "switch", switch) ∷ (codes "kind", codes "buffer") ∷ (codes "port", decimal port)
    ∷ (codes "occupied", decimal (option_map_or (λ f. f.bytes) peak 0)) ∷ (codes "buffer", decimal buffer) ∷ (codes "at", optional (option_map (λ f. f.at) peak)) ∷ [])

-- ---- rows of a finished run

-- the row of a link at the port of a number
abbrev pub row_at : List (List ℕ) → Bool → Run → Link → ℕ → List ℕ
row_at columns promised r l port =
    delays_row columns l.id port (summary_of (delays_of l.id (sent_in r (port_row r.table port)))) (bound_at promised r.table port l.priority)

-- the rows of a link, one for each port that it leads to
abbrev pub link_rows : List (List ℕ) → Bool → Run → Link → List ℕ
link_rows columns promised r l = flat_map (row_at columns promised r l) l.to

-- the row of a port's buffer
abbrev pub port_row_of : List (List ℕ) → List ℕ → Run → PortRow → List ℕ
port_row_of columns switch r p = buffer_row columns switch p.id p.buffer (peak_at r p)

-- the rows of the buffers of all ports, by rising number
abbrev pub buffers_rows : List (List ℕ) → List ℕ → Run → List ℕ
buffers_rows columns switch r = flat_map (port_row_of columns switch r) r.table.ports

-- the rows of each link of the table, in its order, at each of its output ports, in the link's order; then of each port of a switch without
-- a name
abbrev pub measures_rows : List (List ℕ) → Bool → Run → List ℕ
measures_rows columns promised r = flat_map (link_rows columns promised r) r.table.links ++ buffers_rows columns [] r
