-- What the first of all that is due says of what is due before an instant.
use Rattle.std.proofs.Common.{◌≡◌, ℕ, ◌≤◌, false, List, length, get_or, Option, Some, None, All, refl, arith}
use Rattle.std.proofs.lemmas.List.{get_or_default}
use Rattle.std.proofs.lemmas.Bool.{le-ltb}
use Rattle.afdx_units.specs.Time.{is_before}
use Rattle.afdx_earliest.specs.Instants.{IsFirstUpTo}

-- one that is due no earlier than an instant
no_earlier : (instant : ℕ) (due : Option ℕ) → ((u : ℕ) → due ≡ Some u → instant ≤ u) → is_before instant due ≡ false
no_earlier instant None le = refl
no_earlier instant (Some u) le = le-ltb u instant (le u refl)

-- nothing is due before the first
pub none_before : (instant : ℕ) (dues : List (Option ℕ)) (place at : ℕ) → IsFirstUpTo dues (length dues) place at → instant ≤ at
    → All (λ (due : Option ℕ). is_before instant due ≡ false) dues
none_before instant dues place at first le k d within =
    rw (get_or_default dues k d None within) (no_earlier instant (get_or dues k None) (λ u is. let sooner = first.sooner k u within is in omega (arith, sooner, le)))
