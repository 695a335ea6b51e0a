-- Which copies each port took, as flags by the numbers of ports and of arrivals.
use Rattle.std.specs.Prelude.{◌≡◌, ℕ, ◌<◌, not, false, Bool, List, [], length, filter, slice_index_or}
use Rattle.afdx_core.specs.State.{Run}
use Rattle.afdx_trace.specs.Arrivals.{took}

-- the flag of an arrival at a port; false if there is none
abbrev pub flag_at : List (List Bool) → ℕ → ℕ → Bool
flag_at flags port number = slice_index_or (slice_index_or flags port []) number false

-- those of these ports at which an arrival's flag is false
abbrev pub unflagged : List (List Bool) → ℕ → List ℕ → List ℕ
unflagged flags number to = filter (λ port. not (flag_at flags port number)) to

-- the flags say of each arrival which ports took a copy
abbrev pub AreTaken : Run → List (List Bool) → Type 0
AreTaken r flags = (port number : ℕ) → number < length r.rows → flag_at flags port number ≡ took r port number
