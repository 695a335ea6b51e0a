-- Where the frames of a network came from, and the delays of links from end to end (profile): from the stamp at the first switch to the end
-- on the last line.
use Rattle.std.specs.Prelude.{◌≡◌, ◌⊎◌, ℕ, ◌+◌, ◌-◌, ◌<◌, ◌≤◌, ◌==◌, true, List, [], ◌∷◌, ◌++◌, length, map, filter, Some, None, option_and_then, Contains}
use Rattle.std.specs.List.{AllZip}
use Rattle.afdx_units.specs.Time.{stamp_end}
use Rattle.afdx_port.specs.declared.Sent.{Sent}
use Rattle.afdx_measure.specs.declared.delays.Delays.{Delays}
use Rattle.afdx_measure.specs.Delays.{summary_of}
use Rattle.afdx_wiring.specs.declared.layout.End.{End}
use Rattle.afdx_wiring.specs.declared.layout.Wire.{Wire}
use Rattle.afdx_wiring.specs.File.{is_end}
use Rattle.afdx_network_check.specs.Net.{Network, Row, ingress, wire_to, row_at, IsSource}
use Rattle.afdx_network_check.specs.Order.{leading, row_before}
use Rattle.afdx_origins.specs.declared.departure.Departure.{Departure}
use Rattle.afdx_origins.specs.declared.fault.OriginsFault.{OriginsFault}
use Rattle.afdx_origins.specs.declared.fault.OriginsFault.TheVariants as fault

-- a network, and the copies that its ports sent so far
pub record Origins : Type 0 where
  pub net : Network
  pub sent : List Departure

-- what a port sent, in order
abbrev pub sent_from : List Departure → End → List Sent
sent_from all e = map (λ d. d.copy) (filter (λ d. is_end d.from e) all)

-- the copies of a link, in order
abbrev pub of_link : ℕ → List Sent → List Sent
of_link link copies = filter (λ x. x.item.link == link) copies

-- what is known after one more copy was sent from this port
abbrev pub after_sending : End → Sent → Origins → Origins
after_sending e x o = record { net = o.net; sent = o.sent ++ record { from = e; copy = x } ∷ [] }

-- ---- where a frame came from

-- a hop back over a wire: the wire, the row of the link at its start, and the copy that left there
pub record Hop : Type 0 where
  pub wire : Wire
  pub row : Row
  pub copy : Sent

-- the frame of a copy that was sent for a row had come to its first switch at this instant. If no wire goes to the row's port, it came there
-- then; else a copy of the link left at the wire's start, earlier by what the wire takes, and that copy's frame had come so at this instant
abbrev pub CameOver : Network → List Departure → Row → Sent → List Hop → ℕ → Type 0
CameOver net sent r x [] first = IsSource net r × (x.item.stamp ≡ first)
CameOver net sent r x (h ∷ hops) first =
    (wire_to net (ingress r) ≡ Some h.wire) × (row_before net r.link.id h.wire ≡ Some h.row) × Contains (of_link r.link.id (sent_from sent h.wire.from)) h.copy
    × (h.copy.end + h.wire.delay ≡ x.item.stamp) × CameOver net sent h.row h.copy hops first

-- the frame of a copy had come to its first switch at this instant, over wires or none
abbrev pub CameFirst : Network → List Departure → Row → Sent → ℕ → Type 0
CameFirst net sent r x first = (hops : List Hop) × CameOver net sent r x hops first

-- ---- delays

-- a delay from end to end, in nanoseconds: from when the frame came first to the instant from which the line is free again, for a copy of a
-- link that a port of a switch sent
pub record IsDelay (net : Network) (sent : List Departure) (link : ℕ) (e : End) (x : Sent) (delay : ℕ) : Type 0 where
  pub row : Row
  pub first : ℕ
  pub row_is : row_at net e.switch link ≡ Some row
  pub came : CameFirst net sent row x first
  pub delay_is : delay ≡ x.end - first

-- the delays of the copies of a link that a port sent, in their order
abbrev pub AreDelays : Network → List Departure → ℕ → End → List ℕ → Type 0
AreDelays net sent link e delays = AllZip (IsDelay net sent link e) (of_link link (sent_from sent e)) delays

-- the switch has no row of the link that leads to the port
abbrev pub HasNoRow : Network → ℕ → End → Type 0
HasNoRow net link e = option_and_then (leading e.port) (row_at net e.switch link) ≡ None

-- what is reported of the delays of a link at a port
abbrev pub IsSummary : Network → List Departure → ℕ → End → Delays → Type 0
IsSummary net sent link e d = (delays : List ℕ) × AreDelays net sent link e delays × (d ≡ summary_of delays)

-- ---- what is not noted

-- for so many nanoseconds a copy of a frame that came over a wire may still leave: one that is older than half a second is discarded, and the
-- rest is longer than any latency, line time, wire and window
abbrev pub kept_for : ℕ
kept_for = 600000000

-- a copy of the link came over a wire more than so long after an instant
abbrev pub IsForgotten : List Departure → ℕ → Wire → ℕ → Type 0
IsForgotten sent link w at = (later : Sent) × Contains (of_link link (sent_from sent w.from)) later × (at + kept_for < later.end + w.delay)

-- a wire goes to the port of the link's row, and if a copy of the link came over it at the stamp of this one's frame, it is forgotten
pub record IsUntold (net : Network) (sent : List Departure) (switch link : ℕ) (x : Sent) : Type 0 where
  pub row : Row
  pub wire : Wire
  pub row_is : row_at net switch link ≡ Some row
  pub wire_is : wire_to net (ingress row) ≡ Some wire
  pub none : (copy : Sent) → Contains (of_link link (sent_from sent wire.from)) copy → copy.end + wire.delay ≡ x.item.stamp → IsForgotten sent link wire x.item.stamp

-- a wire that begins at the port would bring a frame that ends at an instant after the last instant
abbrev pub ComesLate : Network → End → ℕ → Type 0
ComesLate net e end = (w : Wire) × Contains net.layout.wires w × (is_end w.from e ≡ true) × (stamp_end ≤ end + w.delay)

-- why a copy that a port sent is not noted
abbrev pub IsNotNoted : Origins → End → Sent → OriginsFault → Type 0
IsNotNoted o e x fault.Unknown = HasNoRow o.net x.item.link e ⊎ IsUntold o.net o.sent e.switch x.item.link x
IsNotNoted o e x fault.Late = ComesLate o.net e x.end
IsNotNoted o e x fault.Count = length (of_link x.item.link (sent_from o.sent e)) ≡ 18446744073709551615
IsNotNoted o e x fault.Memory = Unit {0}
