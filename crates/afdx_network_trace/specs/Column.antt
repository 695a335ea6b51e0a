-- One more column of the text of a switch's arrivals (profile).
use Rattle.std.specs.Prelude.{ℕ, zero, suc, ◌+◌, ◌==◌, codes, List, [], ◌∷◌, ◌++◌, slice_get, Option, Some, None, option_and_then, if◌then◌else◌}
use Rattle.std.specs.Fmt.{decimal}

-- the number of a field, or nothing
abbrev pub number_or_none : Option ℕ → List ℕ
number_or_none (Some number) = decimal number
number_or_none None = []

-- the field of a line: the heading, or the number that the line's arrival had at its first switch; nothing, if this is its first
abbrev pub field_of : (line : ℕ) → List (Option ℕ) → List ℕ
field_of zero firsts = codes ",origin"
field_of (suc line) firsts = codes "," ++ number_or_none (option_and_then (λ first. first) (slice_get firsts line))

-- a text with its line's field before the end of each line, from this line on
abbrev pub with_column : (line : ℕ) → List (Option ℕ) → List ℕ → List ℕ
with_column line firsts [] = []
with_column line firsts (b ∷ text) = if b == 10 then field_of line firsts ++ b ∷ with_column (line + 1) firsts text else b ∷ with_column line firsts text
