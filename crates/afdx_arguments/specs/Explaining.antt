-- The command `explain`, and the flag `--explain` before a command.
use Rattle.std.specs.Prelude.{◌≡◌, ◌&&◌, ℕ, Bool, false, not, codes, if◌then◌else◌, List, drop, slice_get, Some}
use Rattle.std.specs.Option.{option_map_or}
use Rattle.std.specs.Str.{bytes_eq}
use Rattle.clap.specs.Words.{Row, Text, first_of}
use Rattle.afdx_remedies.specs.Entries.{entry_of}

-- the entries name a code, and this is what MESSAGES says of it
abbrev pub HasEntry : List Row → List ℕ → Type 0
HasEntry rows entry = (code : Text) × (first_of (codes "CODE") rows ≡ Some code) × (entry_of code ≡ Some entry)

-- the argument at a place is the flag
abbrev pub is_flag_at : ℕ → List Text → Bool
is_flag_at place arguments = option_map_or (λ w. bytes_eq w (codes "--explain")) (slice_get arguments place) false

-- the flag is the first argument after the program's name
abbrev pub is_explained : List Text → Bool
is_explained arguments = is_flag_at 1 arguments

-- profile: what is asked for is what the arguments after the flag say; the flag itself stands in the place of the program's name. If it
-- is there twice, `clap` gets both, and refuses them as it does any flag that is given twice
abbrev pub plain_of : List Text → List Text
plain_of arguments = if is_explained arguments && not (is_flag_at 2 arguments) then drop 1 arguments else arguments
