-- The first rule that the tables of a network break (profile): rule by rule; within one rule by wire and by the row that leads to it,
-- or by switch and row.
use Rattle.std.specs.Prelude.{ℕ, zero, suc, ◌+◌, ◌/◌, ◌==◌, ◌||◌, Bool, true, false, not, nat_le, nat_lt, if◌then◌else◌, List, [], ◌∷◌, ◌++◌, map, filter, slice_get}
use Rattle.std.specs.Prelude.{Option, Some, None, option_map, option_and_then, option_to_list, is_some, Result, Ok, Err}
use Rattle.std.specs.List.{list_any, enumerate_from}
use Rattle.std.specs.Str.{bytes_eq}
use Rattle.afdx_units.specs.declared.police.Police.{Police}
use Rattle.afdx_units.specs.declared.police.Police.TheVariants.{Byte, Frame}
use Rattle.afdx_units.specs.Time.{bag_ms}
use Rattle.afdx_units.specs.declared.line.Speed.{Speed}
use Rattle.afdx_units.specs.declared.line.Speed.TheVariants.{Ten, Hundred, Thousand}
use Rattle.afdx_table.specs.declared.rows.PortRow.{PortRow}
use Rattle.afdx_table.specs.Link.{Link, leads_to}
use Rattle.afdx_table.specs.Content.{Content, port_row, link_row}
use Rattle.afdx_load.specs.Load.{Load}
use Rattle.afdx_load.specs.declared.fault.LoadFault.{LoadFault}
use Rattle.afdx_load.specs.Bounds.{bounds_of}
use Rattle.afdx_grouping.specs.Scatter.{first_scattered_fault}
use Rattle.afdx_jitter.specs.declared.delays.Delays.{Delays}
use Rattle.afdx_jitter.specs.Delay.{hop_of, joined, at_once, least_jitter}
use Rattle.afdx_wiring.specs.declared.fault.At.{At}
use Rattle.afdx_wiring.specs.declared.fault.At.TheVariants as place
use Rattle.afdx_wiring.specs.declared.fault.NetworkFault.{NetworkFault}
use Rattle.afdx_wiring.specs.declared.fault.NetworkFault.TheVariants as fault
use Rattle.afdx_wiring.specs.declared.fault.Short.{Short}
use Rattle.afdx_wiring.specs.declared.layout.End.{End}
use Rattle.afdx_wiring.specs.declared.layout.Wire.{Wire}
use Rattle.afdx_network_check.specs.declared.row.Row.{Row as RowOfCode}
use Rattle.afdx_network_check.specs.declared.shared.Shared.{Shared}
use Rattle.afdx_network_check.specs.declared.shared.Shared.TheVariants as shared
use Rattle.afdx_wiring.specs.Refusal.{◌>>=◌, or_refuse, unless}
use Rattle.afdx_network_check.specs.Net.{Network, Row, port_at, row_at, rows_of, ingress, wire_to, least_at, scatter_at, load_at, stated_least, bound_in}

-- a row as the code has it
abbrev pub row_of : RowOfCode → Row
row_of r = record { switch = r.switch; link = r.link.now }

-- what a rule says: nothing, or the refusal
abbrev pub Answer : Type 0
Answer = Result (Unit {0}) NetworkFault

-- ---- orders

-- the first refusal of a rule, one after another
abbrev pub first_of : {X : Type 0} → (X → Answer) → List X → Answer
first_of rule [] = Ok tt
first_of rule (x ∷ xs) = rule x >>= λ _. first_of rule xs

-- the first refusal of a rule by wire, each with its place in the file, of which n come before these
abbrev pub by_wires : (At → Wire → Answer) → ℕ → List Wire → Answer
by_wires rule n ws = first_of (λ at. rule (place.Wire (at.0 + 1)) at.1) (enumerate_from n ws)

-- ---- wires

-- an end is a port
abbrev pub is_port : List Content → End → Bool
is_port tables e = is_some (option_and_then (λ t. port_row t e.port) (slice_get tables e.switch))

-- both ends of a wire are ports
abbrev pub has_ports : List Content → At → Wire → Answer
has_ports tables at w = unless (not (is_port tables w.from) || not (is_port tables w.to)) (fault.NoSuchPort at)

-- ARINC 664 Part 7: both tables at a wire have the network's one constant
abbrev pub same_constant : At → Option Content → Option Content → Answer
same_constant at (Some here) (Some there) = unless (not (bytes_eq there.constant here.constant)) (fault.Constant at)
same_constant at here there = Err (fault.NoSuchPort at)

-- both lines have one speed
abbrev pub same_rate : Speed → Speed → Bool
same_rate Ten Ten = true
same_rate Hundred Hundred = true
same_rate Thousand Thousand = true
same_rate _ _ = false

-- IEEE 802.3: both ports of a wire have one speed
abbrev pub same_speed : At → Option PortRow → Option PortRow → Answer
same_speed at (Some start) (Some goal) = unless (not (same_rate goal.speed start.speed)) (fault.Speed at)
same_speed at start goal = Err (fault.NoSuchPort at)

-- both tables at a wire have one constant, and both its ports one speed
abbrev pub joined_at : Network → At → Wire → Answer
joined_at net at w =
    same_constant at (slice_get net.tables w.from.switch) (slice_get net.tables w.to.switch)
    >>= λ _. same_speed at (port_at net w.from) (port_at net w.to)

-- ---- the rows at both ends

-- both links are policed in one way
abbrev pub same_police : Police → Police → Bool
same_police Byte Byte = true
same_police Frame Frame = true
same_police _ _ = false

-- ARINC 664 Part 7: both rows have one greatest size and one gap; profile: and one kind of policing
unfoldable pub same_terms : At → Link → Link → Answer
same_terms at l next = do
  size ← unless (not (next.max_size == l.max_size)) (fault.Size at l.id)
  bag ← unless (not (bag_ms next.bag == bag_ms l.bag)) (fault.Bag at l.id)
  unless (not (same_police next.police l.police)) (fault.Police at l.id)

-- a row that leads to a wire, and the row of that number at its end: that it is there, that it has the link come in from the wire, or
-- that both have one greatest size, one gap and one kind of policing
abbrev pub agrees : Shared → At → Wire → Link → Link → Answer
agrees shared.Number at w l next = Ok tt
agrees shared.Port at w l next = if next.from == w.to.port then Ok tt else Err (fault.From at l.id)
agrees shared.Terms at w l next = same_terms at l next

-- the row of a link that leads to a wire agrees with the row at its end; one that leads elsewhere has nothing to agree with
abbrev pub goes_on : Shared → At → Content → Wire → Link → Answer
goes_on what at there w l =
    if leads_to w.from.port l
    then (or_refuse (fault.NoRow at l.id) (link_row there l.id) >>= agrees what at w l)
    else Ok tt

-- all rows of the table at the beginning of a wire agree so with the table at its end
abbrev pub all_go_on : Shared → At → Wire → Option Content → Option Content → Answer
all_go_on what at w (Some here) (Some there) = first_of (goes_on what at there w) here.links
all_go_on what at w here there = Err (fault.NoSuchPort at)

-- the tables at both ends of a wire agree so
abbrev pub shares : Network → Shared → At → Wire → Answer
shares net what at w = all_go_on what at w (slice_get net.tables w.from.switch) (slice_get net.tables w.to.switch)

-- ---- sources

-- a way has each switch at most once, and there are at most so many
abbrev pub most_rows : ℕ
most_rows = 64

-- the row, if it leads to the port
abbrev pub leading : ℕ → Row → Option Row
leading port r = if leads_to port r.link then Some r else None

-- the row that sends a link on a wire; none, if the link does not come on it
abbrev pub row_before : Network → ℕ → Wire → Option Row
row_before net id w = option_and_then (leading w.from.port) (row_at net w.from.switch id)

-- one step back from a row to its source: the row itself if no wire leads to it, else the source of the row before
abbrev pub source_by : (Row → Option Row) → Network → Row → Option Wire → Option Row
source_by back net r None = Some r
source_by back net r (Some w) = option_and_then back (row_before net r.link.id w)

-- the source of a row: where the way back from it ends, over at most n rows
abbrev pub source_within : ℕ → Network → Row → Option Row
source_within zero net r = None
source_within (suc n) net r = source_by (source_within n net) net r (wire_to net (ingress r))

-- ARINC 664 Part 7: a row has a source: the way back from it ends at an end system's port
abbrev pub has_source : Network → Row → Answer
has_source net r = unless (not (is_some (source_within most_rows net r))) (fault.NoSource r.switch r.link.id)

-- an end system's port feeds the row
abbrev pub is_fed : Network → Row → Bool
is_fed net r = not (is_some (wire_to net (ingress r)))

-- the numbers of those rows that an end system's port feeds
abbrev pub fed_numbers : Network → List Row → List ℕ
fed_numbers net rows = map (λ r. r.link.id) (filter (is_fed net) rows)

-- each number once: the first that is among those before it is refused
abbrev pub each_once : (before : List ℕ) → List ℕ → Answer
each_once before [] = Ok tt
each_once before (id ∷ ids) = unless (list_any (λ n. n == id) before) (fault.TwiceSource id) >>= λ _. each_once (before ++ id ∷ []) ids

-- ---- in their order

-- each end of each wire is a port
unfoldable pub lost_port : List Content → List Wire → Answer
lost_port tables wires = by_wires (has_ports tables) 0 wires

-- the first switch whose least time is said to be more than its table's latency; n come before these
abbrev pub lost_latency : Network → ℕ → List Content → Answer
lost_latency net n [] = Ok tt
lost_latency net n (t ∷ ts) = unless (nat_lt t.latency (stated_least net n)) (fault.Latency n) >>= λ _. lost_latency net (n + 1) ts

-- the tables agree at each wire, and each link has one source: rule by rule
unfoldable pub misfit : Network → Answer
misfit net = do
  joins ← by_wires (joined_at net) 0 net.layout.wires
  numbers ← by_wires (shares net shared.Number) 0 net.layout.wires
  ports ← by_wires (shares net shared.Port) 0 net.layout.wires
  terms ← by_wires (shares net shared.Terms) 0 net.layout.wires
  sources ← first_of (has_source net) (rows_of net)
  each_once [] (fed_numbers net (rows_of net))

-- ---- loads

-- the fault of the load of a switch, if it has one; n switches come before it
abbrev pub load_fits : ℕ → Option LoadFault → Answer
load_fits n None = Ok tt
load_fits n (Some why) = Err (fault.Load n why)

-- each switch, of which n come before these, is accepted with latencies that may differ so much
abbrev pub tables_fit : Network → ℕ → List Content → Answer
tables_fit net n [] = Ok tt
tables_fit net n (t ∷ ts) = load_fits n (first_scattered_fault (scatter_at net n t) t.latency t.links t.ports) >>= λ _. tables_fit net (n + 1) ts

-- the latencies, and then the loads, by switch
unfoldable pub loads_fit : Network → Answer
loads_fit net = lost_latency net 0 net.tables >>= λ _. tables_fit net 0 net.tables

-- ---- jitters

-- a bound, if it is at most a thousand seconds; no table that is accepted has a greater one
abbrev pub within_reason : ℕ → Option ℕ
within_reason bound = if nat_le bound 1000000000000 then Some bound else None

-- the hop from a row's switch, which has this table, over this port, which has this load, and a cable of so many ns
abbrev pub hop_over : Network → Content → Row → (cable : ℕ) → PortRow → Load → Option Delays
hop_over net t r cable p load =
    option_map (λ bound. hop_of p.speed (least_at net r.switch t) bound cable) (option_and_then within_reason (bound_in (bounds_of load) r.link.priority))

-- the hop over the port of this number
abbrev pub hop_from : Network → Row → (port cable : ℕ) → Content → Option Delays
hop_from net r port cable t = option_and_then (λ p. hop_over net t r cable p (load_at net r.switch t p)) (port_row t port)

-- the hop from a row's switch; none where no bound is within reason
abbrev pub hop_on : Network → Row → (port cable : ℕ) → Option Delays
hop_on net r port cable = option_and_then (hop_from net r port cable) (slice_get net.tables r.switch)

-- one step back on the way to a row: to its source, or over the hop from the row before
abbrev pub way_by : (Row → Delays → Option (ℕ × Delays)) → Network → Row → Delays → Option Wire → Option (ℕ × Delays)
way_by back net r after None = Some (r.link.jitter, after)
way_by back net r after (Some w) = option_and_then (λ b. option_and_then (λ hop. back b (joined hop after)) (hop_on net b w.from.port w.delay)) (row_before net r.link.id w)

-- the jitter of a row's source and the delays from there to the row, over at most n rows; these come after
abbrev pub way_within : ℕ → Network → Row → Delays → Option (ℕ × Delays)
way_within zero net r after = None
way_within (suc n) net r after = way_by (way_within n net) net r after (wire_to net (ingress r))

-- a row, what it has and what it needs, if it has less than that, in whole microseconds
abbrev pub short_by : Row → (need : ℕ) → Option Short
short_by r need =
    if nat_lt (r.link.jitter / 1000) need then Some (record { switch = r.switch; link = r.link.id; need = need; has = r.link.jitter / 1000 }) else None

-- what a row has less than it needs after the whole way to it; there is one if the tables fit together and are accepted
abbrev pub short_after : Row → (far : Option (ℕ × Delays)) → Result (Option Short) NetworkFault
short_after r None = Err (fault.NoSource r.switch r.link.id)
short_after r (Some far) = Ok (short_by r (least_jitter far.1 far.0))

-- whether the row of a link has less than it needs
abbrev pub short_at : Network → Row → Result (Option Short) NetworkFault
short_at net r = short_after r (way_within most_rows net r at_once)

-- these rows, and then those that are found
abbrev pub added : List Short → Result (List Short) NetworkFault → Result (List Short) NetworkFault
added before found = found >>= λ rest. Ok (before ++ rest)

-- the rows among these whose jitter is not enough, in their order
abbrev pub shorts_in : Network → List Row → Result (List Short) NetworkFault
shorts_in net [] = Ok []
shorts_in net (r ∷ rs) = short_at net r >>= λ here. added (option_to_list here) (shorts_in net rs)

-- all rows of a network whose jitter is not enough, in their order
unfoldable pub shortages : Network → Result (List Short) NetworkFault
shortages net = shorts_in net (rows_of net)

-- the refusal of the first of these rows
abbrev pub first_short : List Short → Answer
first_short [] = Ok tt
first_short (short ∷ more) = Err (fault.Jitter short)

-- the first row whose jitter is not enough
unfoldable pub shortage : Network → Answer
shortage net = shortages net >>= first_short
