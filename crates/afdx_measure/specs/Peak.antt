-- How full the buffer of a port was (profile).
use Rattle.std.specs.Prelude.{◌≡◌, ℕ, ◌+◌, ◌<◌, ◌≤◌, Bool, nat_lt, List, [], ◌∷◌, ◌++◌, take, slice_get, Option, Some, None, All}
use Rattle.std.specs.List.{best_of}
use Rattle.afdx_port.specs.declared.Settings.{Settings}
use Rattle.afdx_port.specs.declared.Item.{Item}
use Rattle.afdx_port.specs.Service.{came}
use Rattle.afdx_port.specs.Admission.{occupied}
use Rattle.afdx_measure.specs.declared.filling.Filling.{Filling}

-- an admission, after those before it: the bytes that the buffer then held, its own with them, and its stamp
abbrev pub filling : Settings → List Item → Item → Filling
filling s before x = record { bytes = x.size + occupied s (came s x) before; at = x.stamp }

-- how full the buffer was at each of these admissions, after the ones before them
abbrev pub fillings : Settings → List Item → List Item → List Filling
fillings s before [] = []
fillings s before (x ∷ items) = filling s before x ∷ fillings s (before ++ x ∷ []) items

-- the buffer held more bytes
abbrev pub is_fuller : Filling → Filling → Bool
is_fuller f g = nat_lt g.bytes f.bytes

-- the first that none is fuller than; none if nothing was admitted
abbrev pub peak_of : List Filling → Option Filling
peak_of [] = None
peak_of (f ∷ fs) = Some (best_of is_fuller f fs)

-- ---- the law: it is the greatest, at the first admission that reached it

-- the peak is the greatest, at the first admission that reached it; none if nothing was admitted
abbrev pub IsPeak : List Filling → Option Filling → Type 0
IsPeak all None = all ≡ []
IsPeak all (Some peak) =
    (place : ℕ) × (slice_get all place ≡ Some peak) × All (λ f. f.bytes ≤ peak.bytes) all × All (λ f. f.bytes < peak.bytes) (take place all)

-- the peak that is found is the greatest, at the first admission that reached it
abbrev pub PeakIsTheFirstGreatest : Type 0
PeakIsTheFirstGreatest = (all : List Filling) → IsPeak all (peak_of all)
