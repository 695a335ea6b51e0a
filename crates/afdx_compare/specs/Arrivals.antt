-- All that came and left, in the order of the instants (profile).
use Rattle.std.specs.Prelude.{ℕ, max, List, [], ◌∷◌, Option, Some, None, slice_get, if◌then◌else◌}
use Rattle.std.specs.Option.{option_or, option_map_or}
use Rattle.afdx_units.specs.Time.{earlier_of}
use Rattle.afdx_merging.specs.Merge.{Arrival}
use Rattle.afdx_recordings.specs.declared.recordings.Recordings.{Recordings}
use Rattle.afdx_compare.specs.declared.sources.Source.{Source}
use Rattle.afdx_compare.specs.Comparison.{Comparison, with_came, with_left}

-- ---- what arrived

-- a comparison after a record of this capture: it came at the capture's port, or left there
abbrev pub with_record_of : Option Source → Arrival → Comparison → Comparison
with_record_of None a c = c
with_record_of (Some s) a c = if s.leaves then with_left s a.head c else with_came s.port a.head c

-- a comparison after an arrival, which is a record of the capture at its place
abbrev pub with_arrival : List Source → Arrival → Comparison → Comparison
with_arrival captures a c = with_record_of (slice_get captures a.place) a c

-- a comparison after all of these arrivals, one by one
abbrev pub with_arrivals : List Source → List Arrival → Comparison → Comparison
with_arrivals captures [] c = c
with_arrivals captures (a ∷ arrivals) c = with_arrivals captures arrivals (with_arrival captures a c)

-- ---- the span

-- the greater of an instant and one that may be missing
abbrev pub greater : ℕ → Option ℕ → ℕ
greater at None = at
greater at (Some other) = max at other

-- the least and the greatest instant of all, if there are any
abbrev pub least_of : List Arrival → Option ℕ
least_of [] = None
least_of (a ∷ arrivals) = earlier_of (Some a.head.frame.stamp) (least_of arrivals)

-- the greatest stamp of all that was recorded, in ns, if anything was
abbrev pub greatest_of : List Arrival → Option ℕ
greatest_of [] = None
greatest_of (a ∷ arrivals) = Some (greater a.head.frame.stamp (greatest_of arrivals))

-- recordings begin at the least stamp of all, unless their beginning is given
abbrev pub begin_of : Recordings → List Arrival → ℕ
begin_of r arrivals = option_map_or (λ at. at) (option_or r.from (least_of arrivals)) 0

-- recordings end at the greatest stamp of all, unless their end is given
abbrev pub end_of : Recordings → List Arrival → ℕ
end_of r arrivals = option_map_or (λ at. at) (option_or r.until (greatest_of arrivals)) 0
