use Rattle.std.proofs.Common.{◌≡◌, ℕ, List, [], ◌∷◌, ◌++◌, length}
use Rattle.std.specs.Str.{IsUtf8}
use Rattle.afdx_table.specs.Inner.Pairs.{ReadsLines}
use Rattle.afdx_table.proofs.pairs.read_pairs.Given as goal

abbrev pub invariant-lines : goal.invariant-lines
invariant-lines l = IsUtf8 l.rest × (front : List ℕ) × (l.fn.text ≡ front ++ 10 ∷ l.rest) × ReadsLines [] front l.pairs.items

abbrev pub decreases-lines : goal.decreases-lines
decreases-lines l = length l.rest
