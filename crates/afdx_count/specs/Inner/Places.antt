-- Elements of a list under their numbers.
use Rattle.std.specs.Prelude.{◌≡◌, ℕ, ◌+◌, ◌<◌, ◌==◌, nat_eq, List, length, take, map, slice_get, slice_index_or, Some, if◌then◌else◌}
use Rattle.std.specs.List.{position_or_len, IsDistinct}

-- the element at the place has the number
abbrev pub IsPlaceOf : {X : Type 0} → (X → ℕ) → ℕ → List X → ℕ → Type 0
IsPlaceOf number id xs place = slice_get (map number xs) place ≡ Some id

-- the elements, with that of the number changed
abbrev pub changed_at : {X : Type 0} → (X → ℕ) → ℕ → (X → X) → List X → List X
changed_at number id f xs = map (λ x. if number x == id then f x else x) xs

-- under each number of one byte lies its first place among these, or their count if it is none of them
abbrev pub LeadTo : List ℕ → List ℕ → Type 0
LeadTo places numbers = (n d : ℕ) → n < 256 → slice_index_or places n d ≡ position_or_len (λ k. k == n) numbers

-- the first so many elements have different numbers, to which the places lead, and behind them is one more, of no number
abbrev pub IsIndexed : {X : Type 0} → (X → ℕ) → List ℕ → ℕ → List X → Type 0
IsIndexed number places count xs = LeadTo places (map number (take count xs)) × IsDistinct nat_eq (map number (take count xs)) × (length xs ≡ count + 1)
