-- Comma-separated values (RFC 4180, with line feeds; no field has a comma or a quote).
use Rattle.std.specs.Prelude.{ℕ, codes, decimal, List, [], ◌∷◌, ◌++◌, flat_map, Option, Some, None}

-- texts with another between each two
abbrev pub joined_by : List ℕ → List (List ℕ) → List ℕ
joined_by between [] = []
joined_by between (text ∷ texts) = text ++ flat_map (λ next. between ++ next) texts

-- a field that is not the first of its line
abbrev pub next_field : List ℕ → List ℕ
next_field text = codes "," ++ text

-- a number, or an empty field
abbrev pub optional : Option ℕ → List ℕ
optional None = []
optional (Some n) = decimal n
