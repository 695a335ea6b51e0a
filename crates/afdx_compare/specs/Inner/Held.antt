-- Records that wait until it is known whether they count, if recordings end with the greatest stamp of all.
use Rattle.std.specs.Prelude.{◌≡◌, ℕ, ◌+◌, nat_le, not, Bool, true, false, ◌||◌, List, [], ◌∷◌, ◌++◌, Option, Some, None, slice_get}
use Rattle.std.specs.List.{AllByRecursion}
use Rattle.std.specs.Option.{is_some, option_map_or}
use Rattle.afdx_merging.specs.Merge.{Arrival}
use Rattle.afdx_recordings.specs.declared.recordings.Recordings.{Recordings}
use Rattle.afdx_compare.specs.declared.sources.Source.{Source}
use Rattle.afdx_compare.specs.Comparison.{Comparison}
use Rattle.afdx_compare.specs.Arrivals.{with_arrivals}

-- it is known whether a record counts, wherever the recordings end from this greatest stamp on: it is what came, or their end was given, or its stamp is
-- less by at least the tolerance
abbrev pub is_settled : Recordings → Option ℕ → Bool → ℕ → Bool
is_settled r greatest leaves stamp = (not leaves || is_some r.until) || option_map_or (λ at. nat_le (stamp + r.tolerance) at) greatest false

-- it is known whether a record of this capture counts
abbrev pub is_settled_of : Recordings → Option ℕ → Option Source → Arrival → Bool
is_settled_of r greatest None a = false
is_settled_of r greatest (Some s) a = is_settled r greatest s.leaves a.head.frame.stamp

-- it is known whether the first record that waits counts
abbrev pub is_first_settled : Recordings → List Source → Option ℕ → List Arrival → Bool
is_first_settled r captures greatest [] = false
is_first_settled r captures greatest (a ∷ waits) = is_settled_of r greatest (slice_get captures a.place) a

-- of the records that wait the first ones were taken, of each of which it is known
pub record AreTaken (r : Recordings) (captures : List Source) (greatest : Option ℕ) (waited waits : List Arrival) (old new : Comparison) : Type 0 where
  pub taken : List Arrival
  pub all : waited ≡ taken ++ waits
  pub settled : AllByRecursion (λ a. is_settled_of r greatest (slice_get captures a.place) a ≡ true) taken
  pub told : new ≡ with_arrivals captures taken old
