-- Captures are read, and their records taken as far as it is known whether they count.
use Rattle.std.specs.Prelude.{◌≡◌, ℕ, Bool, List, Option, Some, slice_get}
use Rattle.std.specs.List.{AllByRecursion}
use Rattle.afdx_units.specs.Time.{earlier_of}
use Rattle.afdx_table.specs.WellFormed.{IsWellFormed}
use Rattle.afdx_merging.specs.declared.clock.Clock.{Clock}
use Rattle.afdx_merging.specs.declared.merging.Merging.{Merging}
use Rattle.afdx_merging.specs.Merge.{due_at, Arrival}
use Rattle.afdx_merging.specs.Read.{AreMerged}
use Rattle.afdx_merging.specs.Inner.Merging.{HasMerged, least_of as least_at_hand}
use Rattle.afdx_recordings.specs.declared.recordings.Recordings.{Recordings}
use Rattle.afdx_compare.specs.Comparison.{Comparison, IsBegun}
use Rattle.afdx_compare.specs.Sources.{Sources, sources_of}
use Rattle.afdx_compare.specs.Arrivals.{least_of, greatest_of}
use Rattle.afdx_compare.specs.Inner.Held.{AreTaken}

-- a comparison of which nothing was read, over the captures of its table's ports
pub record IsReady (r : Recordings) (s : Sources) (c : Comparison) : Type 0 where
  pub from : ℕ
  pub keeping : Bool
  pub formed : IsWellFormed c.table
  pub sources : s ≡ sources_of c.table r
  pub begun : IsBegun c.table r from keeping c

-- an arrival is by the clock of its capture
pub record IsClocked (clocks : List Clock) (a : Arrival) : Type 0 where
  pub clock : Clock
  pub at : slice_get clocks a.place ≡ Some clock
  pub due : a.due ≡ due_at clock a.head.frame.stamp

-- all of these arrivals are by the clocks of their captures
abbrev pub AreClocked : List Clock → List Arrival → Type 0
AreClocked clocks arrivals = AllByRecursion (IsClocked clocks) arrivals

-- these arrivals came so far, of which those that wait are not taken yet; of all that is read the least stamp is this one
pub record HasRead {R Z : Type 0} (remaining : R → Option (List ℕ)) (r : Recordings) (s : Sources) (first now : List R) (m : Merging Z)
    (least greatest : Option ℕ) (waits : List Arrival) (start c : Comparison) : Type 0 where
  pub came : List Arrival
  pub merged : HasMerged remaining s.clocks first now m came
  pub clocked : AreClocked s.clocks came
  pub least_is : earlier_of (least_of came) (least_at_hand m.lanes.items) ≡ least
  pub greatest_is : greatest ≡ greatest_of came
  pub taken : AreTaken r s.captures greatest came waits start c

-- these arrivals are all that readers give
pub record IsReadOut {R : Type 0} (remaining : R → Option (List ℕ)) (r : Recordings) (s : Sources) (first : List R)
    (least greatest : Option ℕ) (waits : List Arrival) (start c : Comparison) : Type 0 where
  pub came : List Arrival
  pub merged : AreMerged remaining s.clocks first came
  pub clocked : AreClocked s.clocks came
  pub least_is : least_of came ≡ least
  pub greatest_is : greatest ≡ greatest_of came
  pub taken : AreTaken r s.captures greatest came waits start c
