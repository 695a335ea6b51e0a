-- How often a word is chosen.
use Rattle.std.proofs.Common.{◌≡◌, ℕ, ◌<◌, ◌≤◌, Bool, true, false, arith}
use Rattle.afdx_arguments.specs.FailOn.{times}

times_most : (b : Bool) → times b ≤ 1
times_most true = omega arith
times_most false = omega arith

-- a word that is there more than once is not in such a list
pub never_twice : (n : ℕ) (b : Bool) → 1 < n → n ≡ times b → ⊥
never_twice n b twice is = let most = times_most b in omega arith
