-- What is noted of a run while it goes on, and how it agrees with the run so far.
use Rattle.std.specs.Prelude.{◌≡◌, ◌≢◌, ℕ, ◌<◌, ◌≤◌, nat_eq, false, if◌then◌else◌, List, [], ◌∷◌, ◌++◌, length, map, take, slice_get, slice_index, slice_index_or, Option, Some, None}
use Rattle.std.specs.List.{IsDistinct}
use Rattle.afdx_table.specs.declared.rows.PortRow.{PortRow}
use Rattle.afdx_table.specs.Link.{Link, names_port}
use Rattle.afdx_table.specs.Content.{Content, port_row}
use Rattle.afdx_table.specs.WellFormed.{IsWellFormed}
use Rattle.afdx_port.specs.declared.Sent.{Sent}
use Rattle.afdx_port.specs.declared.Offer.{Offer}
use Rattle.afdx_port.specs.declared.Offer.TheVariants.{Full, Queued}
use Rattle.afdx_isolation.specs.Table.{settings_of}
use Rattle.afdx_core.specs.State.{Run, port_in, sent_in, occupied_in, place_of}
use Rattle.afdx_measure.specs.declared.delays.Delays.{Delays}
use Rattle.afdx_measure.specs.declared.filling.Filling.{Filling}
use Rattle.afdx_measure.specs.declared.gauges.AtPort.{AtPort}
use Rattle.afdx_measure.specs.declared.gauges.Gauges.{Gauges}
use Rattle.afdx_measure.specs.Delays.{delay_of, delays_of, summary_of}
use Rattle.afdx_measure.specs.Peak.{fillings, peak_of}
use Rattle.afdx_measure.specs.Ports.{peak_at}

-- what the port at a place handed out
abbrev pub handed_at : Run → ℕ → PortRow → List Sent
handed_at r place p = take (slice_index r.handed place) (sent_in r (Some p))

-- of each link, by its place in the table, the delays of what the port at a place handed out; and how full its buffer was so far
pub record IsGaugedAt {Z : Type 0} (r : Run) (place : ℕ) (p : PortRow) (g : AtPort Z) : Type 0 where
  pub long : length g.delays.items ≡ length r.table.links
  pub handed : slice_index r.handed place ≤ length (sent_in r (Some p))
  pub delays : (k : ℕ) (l : Link) (d : Delays) → slice_get r.table.links k ≡ Some l → slice_index_or g.delays.items k d ≡ summary_of (delays_of l.id (handed_at r place p))
  pub peak : g.peak ≡ peak_at r p

-- what is noted of the port of a number agrees with the run
pub record IsOfPort {Z : Type 0} (r : Run) (port : ℕ) (g : AtPort Z) : Type 0 where
  pub place : ℕ
  pub row : PortRow
  pub row_is : port_row r.table port ≡ Some row
  pub there : slice_get r.table.ports place ≡ Some row
  pub gauged : IsGaugedAt r place row g

-- what is noted of each port agrees with the run
pub record AreGauged {Z : Type 0} (r : Run) (g : Gauges Z) : Type 0 where
  pub formed : IsWellFormed r.table
  pub counts : length r.handed ≡ length r.table.ports
  pub many : length g.ports.items ≡ length r.table.ports
  pub each : (place : ℕ) (p : PortRow) (a : AtPort Z) → slice_get r.table.ports place ≡ Some p → IsGaugedAt r place p (slice_index_or g.ports.items place a)

-- if anything is noted, it agrees with the run
abbrev pub AgreesWith : {Z : Type 0} → Run → Option (Gauges Z) → Type 0
AgreesWith r None = Unit {0}
AgreesWith r (Some g) = AreGauged r g

-- ---- at first

-- nothing is noted of a port yet
pub record IsFresh {Z : Type 0} (links : ℕ) (g : AtPort Z) : Type 0 where
  pub long : length g.delays.items ≡ links
  pub none : (k : ℕ) (d : Delays) → k < links → slice_index_or g.delays.items k d ≡ summary_of []
  pub peak : g.peak ≡ None

-- nothing is noted of any port of a table yet
pub record AreFresh {Z : Type 0} (t : Content) (ports : List (AtPort Z)) : Type 0 where
  pub formed : IsWellFormed t
  pub many : length ports ≡ length t.ports
  pub each : (k : ℕ) (a : AtPort Z) → k < length ports → IsFresh (length t.links) (slice_index_or ports k a)

-- ---- notes at a port

-- the buffer of the port at a place held so much, which is noted after what it held before
pub record IsFilledAt {Z : Type 0} (place : ℕ) (filling : Filling) (old new : List (AtPort Z)) : Type 0 where
  pub long : length new ≡ length old
  pub others : (k : ℕ) (a : AtPort Z) → k ≢ place → slice_index_or new k a ≡ slice_index_or old k a
  pub delays : (k : ℕ) (a : AtPort Z) → (slice_index_or new k a).delays ≡ (slice_index_or old k a).delays
  pub here : (a : AtPort Z) (all : List Filling) → place < length old → (slice_index_or old place a).peak ≡ peak_of all
      → (slice_index_or new place a).peak ≡ peak_of (all ++ filling ∷ [])

-- the port at a place handed out one copy more, of the link at a place
pub record IsSentAt {Z : Type 0} (place link : ℕ) (s : Sent) (old new : List (AtPort Z)) : Type 0 where
  pub long : length new ≡ length old
  pub others : (k : ℕ) (a : AtPort Z) → k ≢ place → slice_index_or new k a ≡ slice_index_or old k a
  pub peak : (a : AtPort Z) → (slice_index_or new place a).peak ≡ (slice_index_or old place a).peak
  pub many : (a : AtPort Z) → length (slice_index_or new place a).delays.items ≡ length (slice_index_or old place a).delays.items
  pub other_links : (a : AtPort Z) (k : ℕ) (d : Delays) → k ≢ link → slice_index_or (slice_index_or new place a).delays.items k d ≡ slice_index_or (slice_index_or old place a).delays.items k d
  pub here : (a : AtPort Z) (d : Delays) (ns : List ℕ) → place < length old → link < length (slice_index_or old place a).delays.items
      → slice_index_or (slice_index_or old place a).delays.items link d ≡ summary_of ns
      → slice_index_or (slice_index_or new place a).delays.items link d ≡ summary_of (ns ++ delay_of s ∷ [])

-- ---- the answers of ports to an arrival

-- how full a port's buffer was, admission by admission
abbrev pub fillings_in : Run → PortRow → List Filling
fillings_in r p = fillings (settings_of r.table.latency p) [] (port_in r p).admitted

-- what an answer says of how full the port's buffer was: with what it holds now, or as before
abbrev pub FillsBy : Run → Run → ℕ → PortRow → Offer → Type 0
FillsBy r now at p Queued = peak_at now p ≡ peak_of (fillings_in r p ++ record { bytes = occupied_in now (Some p); at = at } ∷ [])
FillsBy r now at p Full = peak_at now p ≡ peak_at r p

-- the ports that were offered a copy
abbrev pub asked : List (ℕ × Offer) → List ℕ
asked offers = map (λ (o : ℕ × Offer). o.0) offers

-- each port that was asked noted its answer; none was asked twice, and the peak of each other port is as it was
pub record Fill (r now : Run) (at : ℕ) (offers : List (ℕ × Offer)) : Type 0 where
  pub formed : IsWellFormed now.table
  pub once : IsDistinct nat_eq (asked offers)
  pub each : (k place : ℕ) (d : ℕ × Offer) (p : PortRow) → k < length offers → place_of now (slice_index_or offers k d).0 ≡ Some place → slice_get now.table.ports place ≡ Some p
      → FillsBy r now at p (slice_index_or offers k d).1
  pub others : (p : PortRow) → names_port p.id (asked offers) ≡ false → peak_at now p ≡ peak_at r p

-- the peaks, of those that were asked as they are now, of others as they were
pub record ArePeaks {Z : Type 0} (r now : Run) (offers : List (ℕ × Offer)) (ports : List (AtPort Z)) : Type 0 where
  pub many : length ports ≡ length now.table.ports
  pub each : (place : ℕ) (p : PortRow) (a : AtPort Z) → slice_get now.table.ports place ≡ Some p
      → (slice_index_or ports place a).peak ≡ (if names_port p.id (asked offers) then peak_at now p else peak_at r p)

-- the delays are as they were
pub record DelaysStay {Z : Type 0} (old new : List (AtPort Z)) : Type 0 where
  pub long : length new ≡ length old
  pub delays : (k : ℕ) (a : AtPort Z) → (slice_index_or new k a).delays ≡ (slice_index_or old k a).delays
