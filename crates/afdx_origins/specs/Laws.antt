-- What the delays from end to end are, and what bounds them.
use Rattle.std.specs.Prelude.{◌≡◌, ℕ, ◌+◌, ◌≤◌, false, List, slice_get, Some, IfSome, All}
use Rattle.afdx_port.specs.declared.Sent.{Sent}
use Rattle.afdx_measure.specs.declared.delays.Delays.{Delays}
use Rattle.afdx_table.specs.declared.rows.PortRow.{PortRow}
use Rattle.afdx_wiring.specs.declared.layout.End.{End}
use Rattle.afdx_network_check.specs.declared.ways.Way.{Way}
use Rattle.afdx_network_check.specs.Net.{Network, Row, row_at, port_at, bound_at}
use Rattle.afdx_network_check.specs.Ways.{IsWayAlong}
use Rattle.afdx_origins.specs.declared.departure.Departure.{Departure}
use Rattle.afdx_origins.specs.Origins.{sent_from, of_link, CameFirst, IsSummary}

-- no port sent two copies that ended at one instant
abbrev pub EndApart : List Departure → Type 0
EndApart sent = (e : End) (j k : ℕ) (x y : Sent) → slice_get (sent_from sent e) j ≡ Some x → slice_get (sent_from sent e) k ≡ Some y → x.end ≡ y.end → j ≡ k

-- if no port sent two copies that ended at one instant, a frame came first at one instant alone
abbrev pub OriginIsOne : Type 0
OriginIsOne = (net : Network) (sent : List Departure) → EndApart sent → (r : Row) (x : Sent) (first other : ℕ)
    → CameFirst net sent r x first → CameFirst net sent r x other → first ≡ other

-- each copy that a port of a network sent for a link ended within the port's bound after its frame's stamp
abbrev pub KeepBounds : Network → List Departure → Type 0
KeepBounds net sent = (e : End) (link : ℕ) (r : Row) (p : PortRow) (bound : ℕ) → row_at net e.switch link ≡ Some r → port_at net e ≡ Some p → bound_at net r p ≡ Some bound
    → All (λ x. x.end ≤ x.item.stamp + bound) (of_link link (sent_from sent e))

-- if copies keep to the bounds, no delay from end to end is greater than the sum of the bounds and cables on the way
abbrev pub NoneTakesMoreThanItsWay : Type 0
NoneTakesMoreThanItsWay = (net : Network) (sent : List Departure) → KeepBounds net sent → (w : Way) (link : ℕ) (e : End) (d : Delays)
    → IsWayAlong net link (record { from = e; to = e; delay = 0; down = false }) w → IsSummary net sent link e d → IfSome d.range (λ range. range.greatest ≤ w.delays.most)
