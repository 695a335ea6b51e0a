-- In which order records of captures are told.
use Rattle.std.specs.Prelude.{◌≡◌, ℕ, ◌≤◌, Bool, true, false, List, [], ◌∷◌, Option, Some, None, slice_get}
use Rattle.std.specs.List.{AllByRecursion}
use Rattle.afdx_table.specs.declared.rows.PortRow.{PortRow}
use Rattle.afdx_table.specs.Content.{Content}
use Rattle.afdx_following.specs.declared.watch.Watch.{Watch}
use Rattle.afdx_following.specs.Watch.{has_frame, has_record}
use Rattle.afdx_merging.specs.Merge.{Arrival}
use Rattle.afdx_compare.specs.declared.sources.Source.{Source}
use Rattle.afdx_compare.specs.Comparison.{Comparison}
use Rattle.afdx_compare.specs.Arrivals.{with_arrival}
use Rattle.afdx_compare.specs.Inner.Sound.{IsBy, due_of, IsInTurn}

-- a record of a port that is in order by the latest instant at which by the stamps its line was free again
pub record IsDueOf (w : Watch) (t : Content) (s : Source) (a : Arrival) : Type 0 where
  pub row : PortRow
  pub there : slice_get t.ports s.place ≡ Some row
  pub number : row.id ≡ s.port
  pub due : a.due ≡ due_of w row a.head

-- what left is in order by that instant, what came by its stamp
abbrev pub IsDueBy : Watch → Content → Source → Bool → Arrival → Type 0
IsDueBy w t s true a = IsDueOf w t s a
IsDueBy w t s false a = a.due ≡ a.head.frame.stamp

-- a record of this capture is so in order
abbrev pub IsDue : Watch → Content → Option Source → Arrival → Type 0
IsDue w t None a = Unit {0}
IsDue w t (Some s) a = IsDueBy w t s s.leaves a

-- each of these is so in order, by the capture at its place
abbrev pub AreDue : Watch → Content → List Source → List Arrival → Type 0
AreDue w t captures arrivals = AllByRecursion (λ a. IsDue w t (slice_get captures a.place) a) arrivals

-- a record counts by its stamp, as one that left (true) or that came
abbrev pub counts_as : Watch → Bool → ℕ → Bool
counts_as w true stamp = has_record w stamp
counts_as w false stamp = has_frame w stamp

-- a record of this capture counts
abbrev pub counts : Watch → Option Source → Arrival → Bool
counts w None a = false
counts w (Some s) a = counts_as w s.leaves a.head.frame.stamp

-- what counts of these is no sooner than an instant
abbrev pub AreFrom : Watch → List Source → ℕ → List Arrival → Type 0
AreFrom w captures at arrivals = AllByRecursion (λ a. counts w (slice_get captures a.place) a ≡ true → at ≤ a.due) arrivals

-- a record that left (true) or that came is in its turn after what was told before
abbrev pub MayArriveBy : Source → Bool → Arrival → Comparison → Type 0
MayArriveBy s true a c = IsInTurn s a.head c
MayArriveBy s false a c = has_frame c.watch a.head.frame.stamp ≡ true → IsBy a.head.frame.stamp c

-- a record of this capture is in its turn, and there is such a capture
abbrev pub MayArrive : Option Source → Arrival → Comparison → Type 0
MayArrive None a c = ⊥
MayArrive (Some s) a c = MayArriveBy s s.leaves a c

-- each of these does, one after the other
abbrev pub MayAllArrive : List Source → List Arrival → Comparison → Type 0
MayAllArrive captures [] c = Unit {0}
MayAllArrive captures (a ∷ arrivals) c = MayArrive (slice_get captures a.place) a c × MayAllArrive captures arrivals (with_arrival captures a c)
