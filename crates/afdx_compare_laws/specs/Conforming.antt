-- If a link's records are what left of its frames, and it is told of both in the order of their instants, nothing speaks against the switch (profile).
use Rattle.std.specs.Prelude.{◌≡◌, ℕ, ◌+◌, ◌≤◌, Bool, true, List, [], ◌∷◌, map, Option, Some, None}
use Rattle.std.specs.List.{AllByRecursion}
use Rattle.afdx_account.specs.declared.account.Account.{Account}
use Rattle.afdx_account.specs.Account.{account_terms}
use Rattle.afdx_levels.specs.Levels.{Allowed}
use Rattle.afdx_following.specs.Output.{Output, IsFresh, last_at}
use Rattle.afdx_following.specs.Watched.{at_first, levels_at_first, with_ends, conforms}
use Rattle.afdx_following.specs.Followed.{Notice, Arrived, Departed, with_notices, AreNext, own_in, left_in, judged}
use Rattle.afdx_compare_laws.specs.Fates.{Recorded, LeaveLater, CanBeTold, IsKeptBy}

-- what left for a link at these ports, the first of which is at a place; records were recorded up to an instant, or all had left
abbrev pub recorded_from : Option ℕ → List Notice → ℕ → List Output → List Recorded
recorded_from last notices place [] = []
recorded_from last notices place (o ∷ outputs) =
    record { limits = o.limits; last = last_at o.limits last; out = left_in place notices } ∷ recorded_from last notices (place + 1) outputs

-- stamps at a port may be off by the tolerance
abbrev pub IsOffBy : ℕ → Output → Type 0
IsOffBy tolerance o = o.limits.tolerance ≡ tolerance

-- if recordings end at an instant, no record is later than it, and no frame is later by more than the tolerance
abbrev pub IsByLast : ℕ → Option ℕ → Notice → Type 0
IsByLast tolerance None x = Unit {0}
IsByLast tolerance (Some last) (Arrived n) = n.frame.stamp ≤ last + tolerance
IsByLast tolerance (Some last) (Departed place n) = n.frame.stamp ≤ last

-- if fates of its frames explain all records of a link, nothing speaks against the switch
abbrev pub KeptLinkConforms : Type 0
KeptLinkConforms = (account : Account) (tolerance : ℕ) (since : Option ℕ) (outputs : List Output) (notices : List Notice) (last : Option ℕ) (fates : List Bool)
    → let first = at_first account tolerance since outputs in
    let ports = recorded_from last notices 0 outputs in
    tolerance ≤ 1000000000 → AllByRecursion IsFresh outputs → AllByRecursion (IsOffBy tolerance) outputs → AreNext first notices
    → AllByRecursion (IsByLast tolerance last) notices → AllByRecursion (LeaveLater (own_in notices)) ports
    → CanBeTold (account_terms account) tolerance (levels_at_first account tolerance since) (own_in notices) ports
    → Allowed (account_terms account) tolerance (levels_at_first account tolerance since) (map judged (own_in notices)) fates
    → AllByRecursion (IsKeptBy (own_in notices) fates) ports → conforms (with_ends last (with_notices notices first)) ≡ true
