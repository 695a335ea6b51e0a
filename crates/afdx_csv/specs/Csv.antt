-- Comma-separated values (RFC 4180, with line feeds), by the names of their columns. No name and no field has a comma, a quote or a line feed.
use Rattle.std.specs.Prelude.{ℕ, codes, decimal, List, [], ◌∷◌, ◌++◌, map, flat_map, Option, Some, None, if◌then◌else◌}
use Rattle.std.specs.Str.{bytes_eq}
use Rattle.afdx_csv.specs.declared.field.Field.{Field}
use Rattle.afdx_csv.specs.declared.field.Field.TheVariants.{Number, Below, Word}

-- a number, or nothing
abbrev pub optional : Option ℕ → List ℕ
optional None = []
optional (Some n) = decimal n

-- a field as it is written
abbrev pub text_of : Field → List ℕ
text_of (Number n) = optional n
text_of (Below n) = codes "-" ++ decimal n
text_of (Word text) = text.now

-- texts with commas between them
abbrev pub joined : List (List ℕ) → List ℕ
joined [] = []
joined (text ∷ texts) = text ++ flat_map (λ next. codes "," ++ next) texts

-- the names of columns, and a line feed
unfoldable pub heading : List (List ℕ) → List ℕ
heading columns = joined columns ++ codes "\n"

-- the field beside the name of a column; an empty one if there is none
abbrev pub field_at : List (List ℕ × List ℕ) → List ℕ → List ℕ
field_at [] name = []
field_at (field ∷ fields) name = if bytes_eq field.0 name then field.1 else field_at fields name

-- the fields of columns, and a line feed
unfoldable pub row : List (List ℕ) → List (List ℕ × List ℕ) → List ℕ
row columns fields = joined (map (field_at fields) columns) ++ codes "\n"
