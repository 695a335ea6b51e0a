-- If the records of a port are what left of the passed frames, nothing that is told of it speaks against the switch (profile).
use Rattle.std.specs.Prelude.{ℕ, ◌+◌, ◌<◌, ◌≤◌, List, [], ◌∷◌, length, Option, Some, None}
use Rattle.std.specs.List.{AllByRecursion}
use Rattle.afdx_units.specs.Line.{size_of, cost_of}
use Rattle.afdx_pcap.specs.Record.{Record}
use Rattle.afdx_pairing.specs.declared.limits.Limits.{Limits}
use Rattle.afdx_pairing.specs.Limits.{left_at, most_of}
use Rattle.afdx_pairing.specs.Pairing.{at_first}
use Rattle.afdx_pairing.specs.Kept.{IsKeptFor, Sight, Came, Left, Until, own_of, passed_of, left_of, AreInOrder, all_told, IsFine}

-- a frame leaves after it came, whatever the stamps are off by
abbrev pub LeavesLater : Limits → Record → Type 0
LeavesLater m f = m.tolerance < m.least + cost_of m.speed (size_of (length f.bytes))

-- an instant is at most a bound and the tolerance past the end of the records, if they end
abbrev pub IsByEnd : Limits → Option ℕ → ℕ → Type 0
IsByEnd m None at = Unit {0}
IsByEnd m (Some last) at = at ≤ last + most_of m

-- each record left at most a bound and the tolerance past the end; and each instant before which nothing leaves any more is no later
abbrev pub AreByEnd : Limits → Option ℕ → List Sight → Type 0
AreByEnd m last [] = Unit {0}
AreByEnd m last (Came n passes ∷ sights) = AreByEnd m last sights
AreByEnd m last (Left n ∷ sights) = IsByEnd m last (left_at m n.frame) × AreByEnd m last sights
AreByEnd m last (Until at ∷ sights) = IsByEnd m last at × AreByEnd m last sights

-- if the records are what left of the frames, nothing speaks against the switch
abbrev pub KeptIsFine : Type 0
KeptIsFine = (m : Limits) (last : Option ℕ) (sights : List Sight) → AreInOrder m sights → AreByEnd m last sights → AllByRecursion (LeavesLater m) (own_of sights)
    → IsKeptFor m last (own_of sights) (passed_of sights) (left_of sights) → AllByRecursion IsFine (all_told (at_first m) last sights)
