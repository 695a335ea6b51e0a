-- The line that says how much was read (profile).
use Rattle.std.specs.Prelude.{ℕ, ◌/◌, ◌%◌, nat_lt, if◌then◌else◌, codes, List, ◌++◌, Option, Some, None}
use Rattle.std.specs.Fmt.{decimal}

-- the bytes of a tenth of the unit in which so many are told: of a megabyte, or of a gigabyte from one on
abbrev pub tenth_of : ℕ → ℕ
tenth_of bytes = if nat_lt bytes 1000000000 then 100000 else 100000000

-- the word for the unit in which so many bytes are told
abbrev pub unit_of : ℕ → List ℕ
unit_of bytes = if nat_lt bytes 1000000000 then codes "MB" else codes "GB"

-- so many bytes, down to a tenth of a unit
abbrev pub tenths : ℕ → ℕ → List ℕ
tenths tenth bytes = decimal (bytes / tenth / 10) ++ codes "." ++ decimal (bytes / tenth % 10)

-- what was read, of the whole if that is known
abbrev pub amount_of : ℕ → Option ℕ → List ℕ
amount_of read None = tenths (tenth_of read) read ++ codes " " ++ unit_of read
amount_of read (Some whole) = tenths (tenth_of whole) read ++ codes " of " ++ tenths (tenth_of whole) whole ++ codes " " ++ unit_of whole

-- the line: what was read, and for how many seconds
abbrev pub line_of : ℕ → Option ℕ → ℕ → List ℕ
line_of read whole seconds = codes "afdx: " ++ amount_of read whole ++ codes ", " ++ decimal seconds ++ codes " s"
