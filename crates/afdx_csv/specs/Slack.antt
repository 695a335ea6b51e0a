-- How much of its bound the greatest delay left (profile).
use Rattle.std.specs.Prelude.{ℕ, ◌-◌, ◌*◌, nat_le, nat_lt, codes, decimal, List, [], ◌++◌, Option, Some, if◌then◌else◌}
use Rattle.std.specs.Int.{div_ceil}

-- what is left of a limit, as text: below 0 if more was used
abbrev pub left_text : ℕ → ℕ → List ℕ
left_text used limit = if nat_le used limit then decimal (limit - used) else codes "-" ++ decimal (used - limit)

-- what the greatest delay left of its bound, in ns; nothing if there is no delay or no bound
abbrev pub slack_text : Option ℕ → Option ℕ → List ℕ
slack_text (Some greatest) (Some bound) = left_text greatest bound
slack_text _ _ = []

-- thousandths of a bound, rounded up
abbrev pub per_mille : ℕ → ℕ → ℕ
per_mille greatest bound = div_ceil (1000 * greatest) bound

-- what it left of a thousand parts of the bound, rounded down
abbrev pub share_text : Option ℕ → Option ℕ → List ℕ
share_text (Some greatest) (Some bound) = if nat_lt 0 bound then left_text (per_mille greatest bound) 1000 else []
share_text _ _ = []
