-- What a comparison says, and what it chooses.
use Rattle.std.proofs.Common.{◌≡◌, ℕ, ◌<◌, ◌≤◌, true, false, cond, ap, arith}
use Rattle.std.specs.Prelude.{nat_lt}
use Rattle.std.proofs.lemmas.Bool.Decides.{nat_tests}

pub is_below : (m n : ℕ) → m < n → nat_lt m n ≡ true
is_below m n h = grind (arith, nat_tests)

pub not_below : (m n : ℕ) → n ≤ m → nat_lt m n ≡ false
not_below m n h = grind (arith, nat_tests)

pub choose_yes : {X : Type 0} {m n : ℕ} (x y : X) → m < n → cond (nat_lt m n) x y ≡ x
choose_yes {X} {m} {n} x y h = ap (λ b. cond b x y) (is_below m n h)

pub choose_no : {X : Type 0} {m n : ℕ} (x y : X) → n ≤ m → cond (nat_lt m n) x y ≡ y
choose_no {X} {m} {n} x y h = ap (λ b. cond b x y) (not_below m n h)
