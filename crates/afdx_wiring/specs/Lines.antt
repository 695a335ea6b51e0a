-- What is reported of tables and networks is lines (profile).
use Rattle.std.specs.Prelude.{ℕ, List, [], ◌∷◌, ◌++◌}

-- each line ends with a line feed
abbrev pub as_line : List ℕ → List ℕ
as_line line = line ++ 10 ∷ []
