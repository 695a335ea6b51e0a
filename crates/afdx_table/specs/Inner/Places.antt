-- The places of links, which are kept under their numbers.
use Rattle.std.specs.Prelude.{◌≡◌, ℕ, zero, suc, ◌<◌, ◌==◌, List, Option, Some, None, position, slice_index_or}
use Rattle.afdx_table.specs.Link.{Link}

-- a place is kept as the number after it, so that 0 is kept for none
abbrev pub place_kept : ℕ → Option ℕ
place_kept zero = None
place_kept (suc place) = Some place

-- under each number of two bytes is kept the place of its link, if there is one
abbrev pub LeadTo : List ℕ → List Link → Type 0
LeadTo places links = (number : ℕ) → number < 65536 → place_kept (slice_index_or places number 0) ≡ position (λ l. l.id == number) links

-- the same is kept under each number
abbrev pub KeepTheSame : List ℕ → List ℕ → Type 0
KeepTheSame old new = (number : ℕ) → slice_index_or new number 0 ≡ slice_index_or old number 0
