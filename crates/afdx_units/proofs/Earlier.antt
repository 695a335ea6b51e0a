-- The earlier of two instants.
use Rattle.std.proofs.Common.{◌≡◌, ℕ, ◌≤◌, min, Option, Some, None, refl, arith}
use Rattle.std.proofs.lemmas.Option.{same_Some}
use Rattle.afdx_units.specs.Time.{earlier_of}

-- there is none where there is neither
pub neither : (one other : Option ℕ) → earlier_of one other ≡ None → (one ≡ None) × (other ≡ None)
neither None None is = (refl, refl)
neither None (Some m) is = absurd cc
neither (Some n) None is = absurd cc
neither (Some n) (Some m) is = absurd cc

-- it is no later than either
pub no_later : (one other : Option ℕ) (first : ℕ) → earlier_of one other ≡ Some first → ((n : ℕ) → one ≡ Some n → first ≤ n) × ((n : ℕ) → other ≡ Some n → first ≤ n)
no_later None None first is = absurd cc
no_later None (Some m) first is =
    let same = same_Some m first is in
    (λ n none. absurd cc, λ n there. let at = same_Some m n there in omega (arith, same, at))
no_later (Some k) None first is =
    let same = same_Some k first is in
    (λ n there. let at = same_Some k n there in omega (arith, same, at), λ n none. absurd cc)
no_later (Some k) (Some m) first is =
    let same = same_Some (min k m) first is in (
      λ n there. let at = same_Some k n there in omega (arith, same, at),
      λ n there. let at = same_Some m n there in omega (arith, same, at),
    )
