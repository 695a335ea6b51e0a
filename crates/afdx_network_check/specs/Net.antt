-- A network: what its file says, and the tables of its switches (profile). The wires of a link's way are found from its end.
use Rattle.std.specs.Prelude.{◌≡◌, ℕ, ◌+◌, ◌-◌, min, true, List, [], ◌∷◌, map, filter, find, flat_map, if◌then◌else◌, slice_get, Option, Some, None}
use Rattle.std.specs.Prelude.{option_map, option_and_then, is_some, Bool, Contains}
use Rattle.std.specs.List.{enumerate_from}
use Rattle.afdx_units.specs.declared.line.Priority.{Priority}
use Rattle.afdx_units.specs.declared.line.Priority.TheVariants.{High, Low}
use Rattle.afdx_table.specs.declared.rows.PortRow.{PortRow}
use Rattle.afdx_table.specs.Link.{Link, leads_to}
use Rattle.afdx_table.specs.Content.{Content, port_row, link_row}
use Rattle.std.specs.Option.{option_map_or}
use Rattle.afdx_load.specs.Load.{Load}
use Rattle.afdx_load.specs.Bounds.{bounds_of}
use Rattle.afdx_load.specs.declared.delays.Bounds.{Bounds}
use Rattle.afdx_grouping.specs.Groups.{lesser_load}
use Rattle.afdx_jitter.specs.declared.delays.Delays.{Delays}
use Rattle.afdx_jitter.specs.Delay.{hop_of, joined, at_once}
use Rattle.afdx_wiring.specs.declared.layout.End.{End}
use Rattle.afdx_wiring.specs.declared.layout.Wire.{Wire}
use Rattle.afdx_wiring.specs.File.{Layout, is_end}

-- a network: what its file says, and its switches' tables
pub record Network : Type 0 where
  pub layout : Layout
  -- one for each switch, in file order
  pub tables : List Content

-- a link's row in the table of a switch
pub record Row : Type 0 where
  pub switch : ℕ
  pub link : Link

-- ---- finding

-- the port at an end of a wire; none if the switch's table has no port of this number
abbrev pub port_at : Network → End → Option PortRow
port_at net e = option_and_then (λ t. port_row t e.port) (slice_get net.tables e.switch)

-- the row of a link in the table of the switch at this place
abbrev pub row_in : ℕ → Link → Row
row_in n = λ l. record { switch = n; link = l }

-- the row of the link of this number at the switch at a place
abbrev pub row_at : Network → ℕ → ℕ → Option Row
row_at net switch id = option_and_then (λ t. option_map (row_in switch) (link_row t id)) (slice_get net.tables switch)

-- the rows of the table of the switch at this place
abbrev pub rows_in : ℕ → List Link → List Row
rows_in n links = map (row_in n) links

-- the rows of these tables, the first of which is that of the switch at this place
abbrev pub rows_from : ℕ → List Content → List Row
rows_from n tables = flat_map (λ at. rows_in at.0 at.1.links) (enumerate_from n tables)

-- all rows: by switch, then in the order of its table
abbrev pub rows_of : Network → List Row
rows_of net = rows_from 0 net.tables

-- a row is of the table at its switch's place, of which n come before these
pub record IsRowOf (n : ℕ) (tables : List Content) (r : Row) : Type 0 where
  pub place : ℕ
  pub table : Content
  pub switch : r.switch ≡ n + place
  pub table_is : slice_get tables place ≡ Some table
  pub known : Contains table.links r.link

-- the rows that lead to a wire, at the switch where it begins
abbrev pub rows_on : Network → Wire → List Row
rows_on net w = filter (λ r. leads_to w.from.port r.link) (filter (λ r. is_end (record { switch = r.switch; port = w.from.port }) w.from) (rows_of net))

-- the port at which a row's link comes in
abbrev pub ingress : Row → End
ingress r = record { switch = r.switch; port = r.link.from }

-- the wire that goes to this port, if one does
abbrev pub wire_to : Network → End → Option Wire
wire_to net e = find (λ w. is_end w.to e) net.layout.wires

-- a wire goes to this port of the switch: what comes there left a switch of the network, one frame after the other
abbrev pub is_wired : Network → (switch port : ℕ) → Bool
is_wired net switch port = is_some (wire_to net (record { switch = switch; port = port }))

-- an end system's port feeds the row: no wire goes there
abbrev pub IsSource : Network → Row → Type 0
IsSource net r = wire_to net (ingress r) ≡ None

-- ---- the way back

-- a wire, and the row that sends the link on it
pub record Back : Type 0 where
  pub wire : Wire
  pub row : Row

-- the way back from a row to its source, the nearest wire first
abbrev pub IsWayBack : Network → Row → List Back → Type 0
IsWayBack net r [] = IsSource net r
IsWayBack net r (b ∷ more) =
    (wire_to net (ingress r) ≡ Some b.wire) × (row_at net b.wire.from.switch r.link.id ≡ Some b.row)
    × (leads_to b.wire.from.port b.row.link ≡ true) × IsWayBack net b.row more

-- the row at the end of the way back
abbrev pub source_of : Row → List Back → Row
source_of r [] = r
source_of r (b ∷ more) = source_of b.row more

-- ---- what a frame takes for it

-- profile: a stamp of whole microseconds, as pcap has it, is below the instant at which its frame came by at most so many nanoseconds
abbrev pub stamp_rounding : ℕ
stamp_rounding = 999

-- at this port of the switch frames come one after the other, to within so many nanoseconds, if that is known: what comes over a wire
-- exactly, and what an end system sends to within the rounding of stamps, if the file says that it has one line
abbrev pub rounding_at : Network → (switch port : ℕ) → Option ℕ
rounding_at net switch port = if is_wired net switch port then Some 0 else if net.layout.one_line then Some stamp_rounding else None

-- the least time that a switch is said to take; 0 if none is stated
abbrev pub stated_least : Network → (switch : ℕ) → ℕ
stated_least net switch = option_map_or (λ s. s.least) (slice_get net.layout.switches switch) 0

-- the least time that a switch with this table takes for a frame, in ns: what is stated, but no more than the table's latency
abbrev pub least_at : Network → (switch : ℕ) → Content → ℕ
least_at net switch t = min (stated_least net switch) t.latency

-- by how many ns the latencies of a switch with this table may differ
abbrev pub scatter_at : Network → (switch : ℕ) → Content → ℕ
scatter_at net switch t = t.latency - least_at net switch t

-- the load of a port of the switch, in which frames that are known to come one after the other are counted so
abbrev pub load_at : Network → (switch : ℕ) → Content → PortRow → Load
load_at net switch t p = lesser_load (scatter_at net switch t) (rounding_at net switch) t p

-- the bound of a priority, if there is one
abbrev pub bound_in : Bounds → Priority → Option ℕ
bound_in bounds High = bounds.high
bound_in bounds Low = bounds.low

-- the bound of the row's link at a port that it leads to
abbrev pub bound_at : Network → Row → PortRow → Option ℕ
bound_at net r p = option_and_then (λ t. bound_in (bounds_of (load_at net r.switch t p)) r.link.priority) (slice_get net.tables r.switch)

-- these are the delays from the arrival at the source's switch to that at the row's switch, if rows have these bounds at ports
abbrev pub AreDelaysBy : (Row → PortRow → Option ℕ) → Network → List Back → Delays → Type 0
AreDelaysBy bound_of net [] d = d ≡ at_once
AreDelaysBy bound_of net (b ∷ more) d =
    (t : Content) × (p : PortRow) × (bound : ℕ) × (before : Delays) × (slice_get net.tables b.row.switch ≡ Some t) × (port_at net b.wire.from ≡ Some p)
    × (bound_of b.row p ≡ Some bound) × AreDelaysBy bound_of net more before × (d ≡ joined before (hop_of p.speed (least_at net b.row.switch t) bound b.wire.delay))

-- these are the delays by the bounds that rows have in the network's report
abbrev pub AreDelays : Network → List Back → Delays → Type 0
AreDelays net backs d = AreDelaysBy (bound_at net) net backs d
