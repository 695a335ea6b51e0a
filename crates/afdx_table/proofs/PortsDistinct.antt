-- Ports whose numbers rise have different numbers.
use Rattle.std.proofs.Common.{◌≡◌, ℕ, ◌<◌, nat_eq, false, List, [], ◌∷◌, map, arith}
use Rattle.std.specs.List.{AllByRecursion, IsDistinct}
use Rattle.std.proofs.lemmas.Bool.Decides.{nat_tests}
use Rattle.afdx_table.specs.declared.rows.PortRow.{PortRow}
use Rattle.afdx_table.specs.Inner.Distinct.{PortsAreDistinct}

apart : (n : ℕ) (qs : List PortRow) → AllByRecursion (λ (q : PortRow). n < q.id) qs → AllByRecursion (λ y. nat_eq n y ≡ false) (map (λ (q : PortRow). q.id) qs)
apart n [] all = tt
apart n (q ∷ qs) all = (grind (arith, nat_tests, all.0), apart n qs all.1)

pub ports_are_distinct : PortsAreDistinct
unfolding IsDistinct
ports_are_distinct [] rises = tt
ports_are_distinct (p ∷ ps) rises = (apart p.id ps rises.0, ports_are_distinct ps rises.1)
