-- What is due at places before an instant: marks, of which bit 0 is for the first place.
use Rattle.std.specs.Prelude.{◌≡◌, ◌≢◌, ℕ, ◌<◌, if◌then◌else◌, List, Option, Some, None}
use Rattle.std.specs.Int.{bit_at}
use Rattle.afdx_units.specs.Time.{is_before}
use Rattle.afdx_earliest.specs.Instants.{instant_at}

-- the marks are those of the places that have an instant before this one
abbrev pub AreMarked : ℕ → List (Option ℕ) → ℕ → Type 0
AreMarked instant instants marks = (place : ℕ) → bit_at marks place ≡ (if is_before instant (instant_at instants place) then 1 else 0)

-- the first place that was marked is no longer, and the others are as they were
pub record IsTakenAt (old new place : ℕ) : Type 0 where
  pub marked : bit_at old place ≡ 1
  pub first : (j : ℕ) → j < place → bit_at old j ≡ 0
  pub gone : bit_at new place ≡ 0
  pub others : (j : ℕ) → j ≢ place → bit_at new j ≡ bit_at old j
  pub fewer : new < old

-- the first place that was marked is no longer; or none was marked
abbrev pub IsTaken : ℕ → ℕ → Option ℕ → Type 0
IsTaken old new None = (old ≡ 0) × (new ≡ 0)
IsTaken old new (Some place) = IsTakenAt old new place
