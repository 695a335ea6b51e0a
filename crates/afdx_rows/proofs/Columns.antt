-- The names of columns.
use Rattle.std.proofs.Common.{ℕ, List, map, Bor}

abbrev pub names_in : List (Bor (List ℕ)) → List (List ℕ)
names_in = map (λ name. name.now)
