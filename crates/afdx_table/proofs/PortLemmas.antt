-- A port in its place, and gaps.
use Rattle.std.proofs.Common.{◌≡◌, ◌≢◌, ℕ, suc, ◌+◌, nat_lt, List, [], ◌∷◌, Option, Some, None, refl, ap, inl, inr, arith}
use Rattle.std.specs.Prelude.{IfSome, IfNone}
use Rattle.std.specs.List.{insert, position_or_len}
use Rattle.std.proofs.lemmas.Bool.{cases_Bool}
use Rattle.std.proofs.lemmas.Bool.Decides.{nat_tests}
use Rattle.afdx_units.specs.Time.{bag_ms}
use Rattle.afdx_units.specs.declared.bag.Bag.{Bag}
use Rattle.afdx_units.specs.declared.bag.Bag.TheVariants.{Ms1, Ms2, Ms4, Ms8, Ms16, Ms32, Ms64, Ms128}
use Rattle.afdx_table.specs.declared.rows.PortRow.{PortRow}
use Rattle.afdx_table.specs.Names.{bag_of}
use Rattle.afdx_table.specs.Ports.{with_port}

one_more : (k : ℕ) → 1 + k ≡ suc k
one_more k = omega arith

-- the place before the first number above
pub with_port-insert : (row : PortRow) (ps : List PortRow) → insert ps (position_or_len (λ p. nat_lt row.id p.id) ps) row ≡ with_port row ps
with_port-insert row [] = refl
with_port-insert row (p ∷ ps) =
    elim (cases_Bool (nat_lt row.id p.id)) [
      | inl below ↦ rw below refl
      | inr above ↦ rw (above, one_more) (ap (λ xs. p ∷ xs) (with_port-insert row ps))
    ]

pub bag_found : (ms : ℕ) (o : Option Bag) → IfSome o (λ bag. bag_ms bag ≡ ms) → IfNone o ((bag : Bag) → bag_ms bag ≢ ms) → o ≡ bag_of ms
unfolding bag_of
bag_found ms (Some Ms1) h n = rw (← h) refl
bag_found ms (Some Ms2) h n = rw (← h) refl
bag_found ms (Some Ms4) h n = rw (← h) refl
bag_found ms (Some Ms8) h n = rw (← h) refl
bag_found ms (Some Ms16) h n = rw (← h) refl
bag_found ms (Some Ms32) h n = rw (← h) refl
bag_found ms (Some Ms64) h n = rw (← h) refl
bag_found ms (Some Ms128) h n = rw (← h) refl
bag_found ms None h n =
    let a : 1 ≢ ms = n Ms1 in
    let b : 2 ≢ ms = n Ms2 in
    let c : 4 ≢ ms = n Ms4 in
    let d : 8 ≢ ms = n Ms8 in
    let e : 16 ≢ ms = n Ms16 in
    let f : 32 ≢ ms = n Ms32 in
    let g : 64 ≢ ms = n Ms64 in
    let i : 128 ≢ ms = n Ms128 in
    grind (arith, nat_tests)
