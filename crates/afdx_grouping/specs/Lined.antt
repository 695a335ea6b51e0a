-- To within how many nanoseconds frames are known to come one after the other at ports, as the code has it: in the places of their numbers.
use Rattle.std.specs.Prelude.{ℕ, Option, None, List, slice_index_or}

-- what is known of the port of this number: ns, or nothing
abbrev pub rounding_in : List (Option ℕ) → ℕ → Option ℕ
rounding_in roundings port = slice_index_or roundings port None
