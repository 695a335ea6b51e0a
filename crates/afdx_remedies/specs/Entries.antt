-- What MESSAGES says of a code (profile).
use Rattle.std.specs.Prelude.{ℕ, List, map, find, Option, option_map}
use Rattle.std.specs.Str.{bytes_eq}
use Rattle.afdx_remedies.specs.declared.entries.TheConstants.{ENTRIES}

-- the codes of the page, each with its text
unfoldable pub entries : List (List ℕ × List ℕ)
entries = map (λ pair. (pair.0.now, pair.1.now)) ENTRIES

-- the text beside this code
abbrev pub entry_of : List ℕ → Option (List ℕ)
entry_of code = option_map (λ pair. pair.1) (find (λ pair. bytes_eq pair.0 code) entries)
