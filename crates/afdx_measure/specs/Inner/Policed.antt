-- What is noted of the policing of a run while it goes on, and how it agrees with the run so far.
use Rattle.std.specs.Prelude.{◌≡◌, ◌≢◌, ℕ, ◌+◌, ◌-◌, ◌<◌, List, [], ◌∷◌, ◌++◌, length, slice_get, slice_index_or, Option, Some, None}
use Rattle.afdx_units.specs.Time.{bag_ns}
use Rattle.afdx_table.specs.Link.{Link}
use Rattle.afdx_table.specs.WellFormed.{IsWellFormed}
use Rattle.afdx_core.specs.State.{Run}
use Rattle.afdx_spells.specs.declared.spell.Excess.{Excess}
use Rattle.afdx_spells.specs.Spells.{Noted, spells_of}
use Rattle.afdx_measure.specs.declared.policing.Policing.{Policing}
use Rattle.afdx_measure.specs.declared.policing.Span.{Span}
use Rattle.afdx_measure.specs.Policing.{spells_in, stamp_at}

-- these are the stamps of the first and of the last arrival, if there is one
abbrev pub EndsAre : Option (ℕ × ℕ) → Run → Type 0
EndsAre None r = length r.rows ≡ 0
EndsAre (Some ends) r = (stamp_at 0 r.rows ≡ Some ends.0) × (stamp_at (length r.rows - 1) r.rows ≡ Some ends.1)

-- the spells of each link, by its place in the table
pub record HaveSpells (r : Run) (spells : List Noted) : Type 0 where
  pub many : length spells ≡ length r.table.links
  pub each : (place : ℕ) (l : Link) (d : Noted) → slice_get r.table.links place ≡ Some l
      → ((slice_index_or spells place d).gap ≡ bag_ns l.bag) × ((slice_index_or spells place d).spells ≡ spells_in r l)

-- the spells of each link, how many frames came, and when the first and the last of them did
pub record IsPoliced {Z : Type 0} (r : Run) (p : Policing Z) : Type 0 where
  pub formed : IsWellFormed r.table
  pub spells : HaveSpells r p.spells.items
  pub count : p.span.count ≡ length r.rows
  pub ends : EndsAre p.span.ends r

-- if anything is noted, it agrees with the run
abbrev pub KnowsPolicing : {Z : Type 0} → Run → Option (Policing Z) → Type 0
KnowsPolicing r None = Unit {0}
KnowsPolicing r (Some p) = IsPoliced r p

-- the stamps of the first and of the last arrival, with one arrival more
abbrev pub ends_with : ℕ → Option (ℕ × ℕ) → Option (ℕ × ℕ)
ends_with at None = Some (at, at)
ends_with at (Some ends) = Some (ends.0, at)

-- after so many arrivals one more came
abbrev pub with_arrival : ℕ → ℕ → Span → Span
with_arrival number at s = record { count = number + 1; ends = ends_with at s.ends }

-- one more policed frame was noted, of the link at a place
pub record IsNotedAt (place : ℕ) (frame : Excess) (old new : List Noted) : Type 0 where
  pub long : length new ≡ length old
  pub others : (k : ℕ) (d : Noted) → k ≢ place → slice_index_or new k d ≡ slice_index_or old k d
  pub gap : (d : Noted) → (slice_index_or new place d).gap ≡ (slice_index_or old place d).gap
  pub here : (d : Noted) (frames : List Excess) → place < length old → (slice_index_or old place d).spells ≡ spells_of (slice_index_or old place d).gap frames
      → (slice_index_or new place d).spells ≡ spells_of (slice_index_or old place d).gap (frames ++ frame ∷ [])
