-- Instants at places, as a list in which none stands for no instant.
use Rattle.std.specs.Prelude.{◌≡◌, ℕ, ◌<◌, ◌≤◌, List, Option, Some, None, slice_index_or}

-- the instant at a place
abbrev pub instant_at : List (Option ℕ) → ℕ → Option ℕ
instant_at instants j = slice_index_or instants j None

-- of those before the place n the first in time, and of equal ones the first in place: it is at the place k
pub record IsFirstUpTo (instants : List (Option ℕ)) (n k t : ℕ) : Type 0 where
  pub within : k < n
  pub here : instant_at instants k ≡ Some t
  pub sooner : (j u : ℕ) → j < n → instant_at instants j ≡ Some u → t ≤ u
  pub former : (j u : ℕ) → j < k → instant_at instants j ≡ Some u → t < u

-- the first instant before the place n, with its place; or that there is none
abbrev pub IsFirstIn : List (Option ℕ) → ℕ → Option (ℕ × ℕ) → Type 0
IsFirstIn instants n None = (j : ℕ) → j < n → instant_at instants j ≡ None
IsFirstIn instants n (Some x) = IsFirstUpTo instants n x.0 x.1
