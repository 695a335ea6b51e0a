-- Lines of words and numbers (profile): they end with a line feed, numbers are decimal, `-` if there is none.
use Rattle.std.specs.Prelude.{ℕ, codes, decimal, List, ◌++◌, flat_map, Option, Some, None}

-- a number, if there is one
abbrev pub number : Option ℕ → List ℕ
number None = codes "-"
number (Some n) = decimal n

-- a word and its number
abbrev pub part : List ℕ × Option ℕ → List ℕ
part p = p.0 ++ number p.1

-- words with their numbers, and a line feed
abbrev pub line : List (List ℕ × Option ℕ) → List ℕ
line parts = flat_map part parts ++ codes "\n"
