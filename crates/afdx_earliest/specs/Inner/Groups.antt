-- How instants are kept: as numbers, those of `Instants` in four groups of six.
use Rattle.std.specs.Prelude.{◌≡◌, ℕ, ◌+◌, ◌*◌, ◌<◌, ◌≤◌, nat_le, if◌then◌else◌, List, length, map, take, slice_index, Option, Some, None}
use Rattle.afdx_units.specs.Time.{stamp_end}

-- the number of a place that has no instant: the greatest of 63 bits
abbrev pub none : ℕ
none = 9223372036854775807

-- the instant that a number is kept for; one that is no instant is kept for none
abbrev pub instant_in : ℕ → Option ℕ
instant_in n = if nat_le stamp_end n then None else Some n

-- the instants that are kept in the numbers of the first places, of which there are so many
abbrev pub instants_in : ℕ → List ℕ → List (Option ℕ)
instants_in places numbers = map instant_in (take places numbers)

-- of the numbers from the place low on and before the place high the least, and its first place
pub record IsFirstFrom (numbers : List ℕ) (low high first least : ℕ) : Type 0 where
  pub past : low ≤ first
  pub within : first < high
  pub here : slice_index numbers first ≡ least
  pub no_less : (j : ℕ) → low ≤ j → j < high → least ≤ slice_index numbers j
  pub former : (j : ℕ) → low ≤ j → j < first → least < slice_index numbers j

-- no place past the last one has an instant, and what is no instant is none
pub record AreKept (places : ℕ) (numbers : List ℕ) : Type 0 where
  pub long : length numbers ≡ 24
  pub few : places ≤ 24
  pub no_place : (j : ℕ) → places ≤ j → j < 24 → slice_index numbers j ≡ none
  pub no_instant : (j : ℕ) → j < 24 → stamp_end ≤ slice_index numbers j → slice_index numbers j ≡ none

-- of each group the least and its first place are known, and no place past the last one has an instant
pub record AreGrouped (places : ℕ) (numbers leasts firsts : List ℕ) : Type 0 where
  pub long : length numbers ≡ 24
  pub few : places ≤ 24
  pub four : length leasts ≡ 4
  pub four_firsts : length firsts ≡ 4
  pub no_place : (j : ℕ) → places ≤ j → j < 24 → slice_index numbers j ≡ none
  pub groups : (g : ℕ) → g < 4 → IsFirstFrom numbers (g * 6) (g * 6 + 6) (slice_index firsts g) (slice_index leasts g)
