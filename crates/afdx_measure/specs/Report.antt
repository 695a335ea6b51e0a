-- What is reported of a finished run (profile): of each link of the table, in its order, the delays at each of its output ports, in the
-- link's order; then of each port, by rising number, how full its buffer was.
use Rattle.std.specs.Prelude.{ℕ, ◌++◌, Bool, if◌then◌else◌, List, flat_map, Option, Some, None}
use Rattle.afdx_units.specs.declared.line.Priority.{Priority}
use Rattle.afdx_table.specs.declared.rows.PortRow.{PortRow}
use Rattle.afdx_table.specs.Link.{Link}
use Rattle.afdx_table.specs.Content.{Content, port_row}
use Rattle.afdx_load.specs.Load.{Load, port_load}
use Rattle.afdx_isolation.specs.Table.{bound_of}
use Rattle.afdx_core.specs.State.{Run, sent_in}
use Rattle.afdx_measure.specs.Delays.{delays_of, summary_of}
use Rattle.afdx_measure.specs.Ports.{peak_at}
use Rattle.afdx_measure.specs.Lines.{link_line, peak_line}

-- the bound of a load for a priority, if there is such a port
abbrev pub bound_by : Option Load → Priority → Option ℕ
bound_by None priority = None
bound_by (Some load) priority = bound_of load priority

-- a port's bound for a priority, if bounds are promised
abbrev pub bound_at : Bool → Content → ℕ → Priority → Option ℕ
bound_at promised t port priority = if promised then bound_by (port_load t port) priority else None

-- the line of a link at the port of a number
abbrev pub line_at : Bool → Run → Link → ℕ → List ℕ
line_at promised r l port = link_line l.id port (summary_of (delays_of l.id (sent_in r (port_row r.table port)))) (bound_at promised r.table port l.priority)

-- the lines of a link, one for each port that it leads to
abbrev pub link_lines : Bool → Run → Link → List ℕ
link_lines promised r l = flat_map (line_at promised r l) l.to

-- the line of a port: how full its buffer was, in bytes
abbrev pub port_line : Run → PortRow → List ℕ
port_line r p = peak_line p.id p.buffer (peak_at r p)

-- the lines of all links, and then of all ports
abbrev pub report_of : Bool → Run → List ℕ
report_of promised r = flat_map (link_lines promised r) r.table.links ++ flat_map (port_line r) r.table.ports
