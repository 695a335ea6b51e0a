-- What is kept of the frames on their way, and how it agrees with what was sent.
use Rattle.std.specs.Prelude.{◌≡◌, ◌≢◌, ◌⊎◌, ℕ, ◌+◌, ◌<◌, ◌==◌, List, [], ◌∷◌, ◌++◌, length, position, slice_get, slice_index_or, true, Some, All, Contains}
use Rattle.afdx_port.specs.declared.Sent.{Sent}
use Rattle.afdx_table.specs.Link.{Link, leads_to}
use Rattle.afdx_table.specs.Content.{Content, link_place}
use Rattle.afdx_table.specs.WellFormed.{IsWellFormed}
use Rattle.afdx_measure.specs.declared.delays.Delays.{Delays}
use Rattle.afdx_measure.specs.Delays.{summary_of}
use Rattle.afdx_wiring.specs.declared.layout.End.{End}
use Rattle.afdx_wiring.specs.declared.layout.Wire.{Wire}
use Rattle.afdx_wiring.specs.File.{is_end}
use Rattle.afdx_network_check.specs.Net.{Network, Row, ingress, wire_to, row_at}
use Rattle.afdx_network_check.specs.Order.{row_before}
use Rattle.afdx_origins.specs.Origins.{sent_from, of_link, kept_for, CameFirst, IsSummary, IsForgotten, ComesLate}
use Rattle.afdx_origins.specs.declared.fault.OriginsFault.{OriginsFault}
use Rattle.afdx_origins.specs.declared.fault.OriginsFault.TheVariants as fault
use Rattle.afdx_origins.specs.declared.departure.Departure.{Departure}
use Rattle.afdx_origins.specs.declared.at_link.Coming.{Coming}
use Rattle.afdx_origins.specs.declared.at_link.AtLink.{AtLink}
use Rattle.afdx_origins.specs.declared.at_switch.AtSwitch.{AtSwitch}

-- a frame that came for a row over a wire: a copy of its link left there, so much earlier, and its frame had come first then
pub record IsOnItsWay (net : Network) (sent : List Departure) (r : Row) (c : Coming) : Type 0 where
  pub wire : Wire
  pub row : Row
  pub copy : Sent
  pub wire_is : wire_to net (ingress r) ≡ Some wire
  pub row_is : row_before net r.link.id wire ≡ Some row
  pub left : Contains (of_link r.link.id (sent_from sent wire.from)) copy
  pub at_is : copy.end + wire.delay ≡ c.at
  pub first : CameFirst net sent row copy c.first

-- the row of a link in the table of a switch, at a place
pub record IsRowAt (net : Network) (switch link place : ℕ) (l : Link) : Type 0 where
  pub table : Content
  pub table_is : slice_get net.tables switch ≡ Some table
  pub formed : IsWellFormed table
  pub place_is : link_place table link ≡ Some place
  pub at : slice_get table.links place ≡ Some l
  pub found : row_at net switch link ≡ Some (record { switch = switch; link = l })
  pub number : l.id ≡ link

-- each frame that is known came for its row
pub record IsComing (net : Network) (sent : List Departure) (switch : ℕ) (t : Content) (s : AtSwitch) : Type 0 where
  pub formed : IsWellFormed t
  pub many : length s.links.items ≡ length t.links
  pub each : (place : ℕ) (l : Link) (a : AtLink) → slice_get t.links place ≡ Some l
      → All (IsOnItsWay net sent (record { switch = switch; link = l })) (slice_index_or s.links.items place a).coming.items

-- each frame that is known at any switch came for its row
pub record AreComing (net : Network) (sent : List Departure) (switches : List AtSwitch) : Type 0 where
  pub many : length switches ≡ length net.tables
  pub each : (switch : ℕ) (t : Content) (s : AtSwitch) → slice_get net.tables switch ≡ Some t → IsComing net sent switch t (slice_index_or switches switch s)

-- what is kept of a switch's delays, by the place of the link and that of the port in its row
abbrev pub delays_in : List AtSwitch → AtSwitch → AtLink → (switch place : ℕ) → List Delays
delays_in switches s a switch place = (slice_index_or (slice_index_or switches switch s).links.items place a).delays.items

-- the delays that are kept are those of what was sent
pub record HaveDelays (net : Network) (sent : List Departure) (switches : List AtSwitch) : Type 0 where
  pub ports : (switch place link : ℕ) (l : Link) (s : AtSwitch) (a : AtLink) → IsRowAt net switch link place l → length (delays_in switches s a switch place) ≡ length l.to
  pub each : (switch place link port at : ℕ) (l : Link) (s : AtSwitch) (a : AtLink) (d : Delays) → IsRowAt net switch link place l → position (λ to. to == port) l.to ≡ Some at
      → IsSummary net sent link (record { switch = switch; port = port }) (slice_index_or (delays_in switches s a switch place) at d)

-- what is kept of the frames of a link
abbrev pub coming_in : List AtSwitch → AtSwitch → AtLink → (switch place : ℕ) → List Coming
coming_in switches s a switch place = (slice_index_or (slice_index_or switches switch s).links.items place a).coming.items

-- the frame that came over a wire at an instant is among those of a link, or another one came over it so much later
abbrev pub IsHeld : List Departure → ℕ → Wire → List Coming → ℕ → Type 0
IsHeld sent link w frames at = ((first : ℕ) × Contains frames (record { at = at; first = first })) ⊎ IsForgotten sent link w at

-- so is each that left at the start of the wire to a link's row
pub record AreTold (net : Network) (sent : List Departure) (switches : List AtSwitch) : Type 0 where
  pub each : (switch link place : ℕ) (l : Link) (s : AtSwitch) (a : AtLink) (w : Wire) (x : Sent) → IsRowAt net switch link place l
      → wire_to net (record { switch = switch; port = l.from }) ≡ Some w → Contains (of_link link (sent_from sent w.from)) x
      → IsHeld sent link w (coming_in switches s a switch place) (x.end + w.delay)

-- all that is kept agrees with what was sent
pub record AreKnown (net : Network) (sent : List Departure) (switches : List AtSwitch) : Type 0 where
  pub coming : AreComing net sent switches
  pub delays : HaveDelays net sent switches
  pub told : AreTold net sent switches

-- a copy of a link left a port and ended at an instant, and its frame had come first at another one
pub record Leaves (net : Network) (sent : List Departure) (e : End) (link end first : ℕ) : Type 0 where
  pub copy : Sent
  pub row : Row
  pub left : Contains (of_link link (sent_from sent e)) copy
  pub end_is : copy.end ≡ end
  pub row_is : row_at net e.switch link ≡ Some row
  pub leads : leads_to e.port row.link ≡ true
  pub came : CameFirst net sent row copy first

-- the delays that are kept stay as they were
pub record KeepDelays (old new : List AtSwitch) : Type 0 where
  pub many : length new ≡ length old
  pub delays : (switch place : ℕ) (s : AtSwitch) (a : AtLink) → delays_in new s a switch place ≡ delays_in old s a switch place

-- the frames that were held are held
pub record StayHeld (net : Network) (sent : List Departure) (old new : List AtSwitch) : Type 0 where
  pub each : (switch link place : ℕ) (l : Link) (s : AtSwitch) (a : AtLink) (w : Wire) (at : ℕ) → IsRowAt net switch link place l
      → wire_to net (record { switch = switch; port = l.from }) ≡ Some w → IsHeld sent link w (coming_in old s a switch place) at → IsHeld sent link w (coming_in new s a switch place) at

-- a frame of a link that came over a wire at an instant is held, if the wire feeds the link's row
abbrev pub HasCome : Network → List Departure → ℕ → Wire → ℕ → List AtSwitch → Type 0
HasCome net sent link w at switches =
    (place : ℕ) (l : Link) (s : AtSwitch) (a : AtLink) → IsRowAt net w.to.switch link place l → l.from ≡ w.to.port → IsHeld sent link w (coming_in switches s a w.to.switch place) at

-- a frame of a link that left a port at an instant came over all wires that begin there
pub record IsCarried (net : Network) (sent : List Departure) (e : End) (link end : ℕ) (old new : List AtSwitch) : Type 0 where
  pub stay : StayHeld net sent old new
  pub come : (w : Wire) → is_end w.from e ≡ true → wire_to net w.to ≡ Some w → HasCome net sent link w (end + w.delay) new

-- why it is not brought over them
abbrev pub IsNotCarried : Network → End → ℕ → OriginsFault → Type 0
IsNotCarried net e end fault.Unknown = ⊥
IsNotCarried net e end fault.Late = ComesLate net e end
IsNotCarried net e end fault.Count = ⊥
IsNotCarried net e end fault.Memory = Unit {0}

-- ---- at first, and one delay more

-- nothing came for the link, and there are no delays at any of its ports
pub record IsFreshLink (many : ℕ) (a : AtLink) : Type 0 where
  pub none : a.coming.items ≡ []
  pub ports : length a.delays.items ≡ many
  pub no_delays : (place : ℕ) (d : Delays) → place < many → slice_index_or a.delays.items place d ≡ summary_of []

-- nothing came for any link of a table, and there are no delays
pub record IsFreshSwitch (t : Content) (s : AtSwitch) : Type 0 where
  pub formed : IsWellFormed t
  pub many : length s.links.items ≡ length t.links
  pub each : (place : ℕ) (l : Link) (a : AtLink) → slice_get t.links place ≡ Some l → IsFreshLink (length l.to) (slice_index_or s.links.items place a)

-- these frames came so long before an instant that they are forgotten
abbrev pub ArePast : ℕ → List Coming → Type 0
ArePast now gone = All (λ c. c.at + kept_for < now) gone

-- none of these came at an instant
abbrev pub NoneCame : List Coming → ℕ → Type 0
NoneCame frames at = (first : ℕ) → Contains frames (record { at = at; first = first }) → ⊥

-- some of the first frames were forgotten, and one came in after the others
pub record HasJoined (c : Coming) (old new : List Coming) : Type 0 where
  pub gone : List Coming
  pub kept : List Coming
  pub was : old ≡ gone ++ kept
  pub is : new ≡ kept ++ c ∷ []
  pub past : ArePast c.at gone

-- some of the first frames of the link at a place were forgotten, and one came in after the others
pub record HasComing (place : ℕ) (c : Coming) (old new : List AtLink) : Type 0 where
  pub within : place < length old
  pub long : length new ≡ length old
  pub others : (k : ℕ) (a : AtLink) → k ≢ place → slice_index_or new k a ≡ slice_index_or old k a
  pub delays : (a : AtLink) → (slice_index_or new place a).delays ≡ (slice_index_or old place a).delays
  pub here : (a : AtLink) → HasJoined c (slice_index_or old place a).coming.items (slice_index_or new place a).coming.items

-- a port has one delay more
pub record HasMore (place delay : ℕ) (old new : List Delays) : Type 0 where
  pub within : place < length old
  pub long : length new ≡ length old
  pub others : (k : ℕ) (d : Delays) → k ≢ place → slice_index_or new k d ≡ slice_index_or old k d
  pub here : (ns : List ℕ) (d : Delays) → slice_index_or old place d ≡ summary_of ns → slice_index_or new place d ≡ summary_of (ns ++ delay ∷ [])

-- a port of the link at a place has one delay more
pub record HasDelay (place port delay : ℕ) (old new : List AtLink) : Type 0 where
  pub within : place < length old
  pub long : length new ≡ length old
  pub others : (k : ℕ) (a : AtLink) → k ≢ place → slice_index_or new k a ≡ slice_index_or old k a
  pub coming : (a : AtLink) → (slice_index_or new place a).coming ≡ (slice_index_or old place a).coming
  pub here : (a : AtLink) → HasMore port delay (slice_index_or old place a).delays.items (slice_index_or new place a).delays.items

-- the copies of a link at a port of a switch are as many as can be counted
abbrev pub IsFull : (switch place port : ℕ) → List AtSwitch → Type 0
IsFull switch place port switches =
    (s : AtSwitch) (a : AtLink) (d : Delays) → switch < length switches → place < length (slice_index_or switches switch s).links.items → port < length (delays_in switches s a switch place)
    → (slice_index_or (delays_in switches s a switch place) port d).count ≡ 18446744073709551615

-- one delay more, of a link at a port of a switch
pub record HaveDelayMore (switch place port delay : ℕ) (old new : List AtSwitch) : Type 0 where
  pub within : switch < length old
  pub many : length new ≡ length old
  pub others : (k : ℕ) (s : AtSwitch) → k ≢ switch → slice_index_or new k s ≡ slice_index_or old k s
  pub here : (s : AtSwitch) → HasDelay place port delay (slice_index_or old switch s).links.items (slice_index_or new switch s).links.items
