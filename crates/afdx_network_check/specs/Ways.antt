-- The ways of a network's links, from their sources to the ports at which they lead out of it (profile).
use Rattle.std.specs.Prelude.{◌≡◌, ◌⊎◌, ℕ, not, Bool, false, Option, is_some, find, List, [], ◌∷◌, ◌++◌, map, filter, flat_map, reverse, Some, Err, Contains}
use Rattle.std.specs.List.{AllZip}
use Rattle.std.specs.List.Sorted.{IsPermutation, IsSorted}
use Rattle.std.specs.Ordering.{nat_cmp, ordering_then}
use Rattle.std.specs.declared.cmp.Ordering.{Ordering}
use Rattle.afdx_jitter.specs.declared.delays.Delays.{Delays}
use Rattle.afdx_jitter.specs.Delay.{least_jitter}
use Rattle.afdx_network_check.specs.declared.exit.Exit.{Exit}
use Rattle.afdx_wiring.specs.declared.fault.NetworkFault.{NetworkFault}
use Rattle.afdx_wiring.specs.declared.fault.NetworkFault.TheVariants.{Memory}
use Rattle.afdx_wiring.specs.declared.layout.End.{End}
use Rattle.afdx_wiring.specs.declared.layout.Wire.{Wire}
use Rattle.afdx_network_check.specs.declared.ways.Way.{Way}
use Rattle.afdx_wiring.specs.File.{is_end}
use Rattle.afdx_network_check.specs.Net.{Network, Row, Back, rows_of, ingress, IsWayBack, source_of, AreDelays}
use Rattle.afdx_network_check.specs.Order.{row_before, has_source}

-- ---- exits

-- the port of an exit
abbrev pub end_of : Exit → End
end_of x = record { switch = x.switch; port = x.port }

-- the wire that comes from this port
abbrev pub wire_from : Network → End → Option Wire
wire_from net e = find (λ w. is_end w.from e) net.layout.wires

-- no wire comes from the port: what leaves there leaves the network
abbrev pub leads_out : Network → Exit → Bool
leads_out net x = not (is_some (wire_from net (end_of x)))

-- the exits of a row: the ports that it leads to and from which no wire comes
abbrev pub exits_at : Network → Row → List Exit
exits_at net r = filter (leads_out net) (map (λ port. record { link = r.link.id; switch = r.switch; port = port }) r.link.to)

-- the exits of all rows
abbrev pub exits_of : Network → List Exit
exits_of net = flat_map (exits_at net) (rows_of net)

-- the order of exits: by link, then by switch and port
abbrev pub by_link : Exit → Exit → Ordering
by_link x y = ordering_then (nat_cmp x.link y.link) (ordering_then (nat_cmp x.switch y.switch) (nat_cmp x.port y.port))

-- the line after an exit, which is no wire of the network: its delay is not counted
abbrev pub line_of : Exit → Wire
line_of x = record { from = end_of x; to = end_of x; delay = 0; down = false }

-- ---- ways

-- the jitters in whole microseconds that a link needs at the switches of these stages if its source has this jitter. The stages are given
-- with the last one first, the jitters with the first one first
abbrev pub AreNeedsOn : Network → (first : ℕ) → List Back → List ℕ → Type 0
AreNeedsOn net first [] needs = needs ≡ []
AreNeedsOn net first (b ∷ more) needs =
    (d : Delays) × (earlier : List ℕ) × AreDelays net more d × AreNeedsOn net first more earlier × (needs ≡ earlier ++ least_jitter d first ∷ [])

-- the way from a source over these stages, each a row and the line after its port, the last one first
pub record IsWayOver (net : Network) (source : Row) (stages : List Back) (w : Way) : Type 0 where
  pub link : w.link ≡ source.link.id
  pub from : w.from ≡ ingress source
  pub jitter : w.jitter ≡ source.link.jitter
  pub ports : w.ports.items ≡ reverse (map (λ b. b.wire.from) stages)
  pub jitters : AreNeedsOn net source.link.jitter stages w.jitters.items
  pub delays : AreDelays net stages w.delays

-- the way of the link of this number to the end of a line
abbrev pub IsWayAlong : Network → ℕ → Wire → Way → Type 0
IsWayAlong net id line w =
    (r : Row) × (backs : List Back) × (row_before net id line ≡ Some r) × IsWayBack net r backs
    × IsWayOver net (source_of r backs) (record { wire = line; row = r } ∷ backs) w

-- the way of an exit's link to the end of the line there
abbrev pub IsWayOut : Network → Exit → Way → Type 0
IsWayOut net x w = IsWayAlong net x.link (line_of x) w

-- the ways of a network: one for each exit of a link, by link, then by switch and port
abbrev pub AreWaysOf : Network → List Way → Type 0
AreWaysOf net ways = (exits : List Exit) × IsPermutation (exits_of net) exits × IsSorted by_link exits × AllZip (IsWayOut net) exits ways

-- ---- where they are not found

-- memory ran out, or this is the refusal of a row that has no way back to a source
abbrev pub IsWayFault : Network → NetworkFault → Type 0
IsWayFault net fault = (fault ≡ Memory) ⊎ ((r : Row) × Contains (rows_of net) r × (has_source net r ≡ Err fault))
