-- What each link of a comparison is told, of all that came and left.
use Rattle.std.specs.Prelude.{ℕ, ◌==◌, List, [], ◌∷◌, ◌++◌, Option, Some, None, slice_get, if◌then◌else◌}
use Rattle.afdx_pairing.specs.Events.{Numbered}
use Rattle.afdx_following.specs.Watch.{has_frame, has_record}
use Rattle.afdx_following.specs.Followed.{Notice, Arrived, Departed}
use Rattle.afdx_merging.specs.Merge.{Arrival}
use Rattle.afdx_compare.specs.declared.sources.Source.{Source}
use Rattle.afdx_compare.specs.Comparison.{Comparison, place_of_own, link_at}
use Rattle.afdx_compare.specs.Arrivals.{with_arrival}

-- the link at a place is told of a frame that came, if it is its own
abbrev pub told_own : ℕ → Option ℕ → Numbered → List Notice
told_own place None n = []
told_own place (Some link) n = if link == place then Arrived n ∷ [] else []

-- the link at a place is told of a record that left, if it is the link's
abbrev pub told_record : ℕ → Option (ℕ × ℕ) → Numbered → List Notice
told_record place None n = []
told_record place (Some (link, output)) n = if link == place then Departed output n ∷ [] else []

-- what it is told of a frame that came at the port of a number, if the frame counts
abbrev pub told_came : ℕ → ℕ → Numbered → Comparison → List Notice
told_came place port n c = if has_frame c.watch n.frame.stamp then told_own place (place_of_own c.table port n.frame) n else []

-- what it is told of a record that left there, if the record counts
abbrev pub told_left : ℕ → ℕ → Numbered → Comparison → List Notice
told_left place port n c = if has_record c.watch n.frame.stamp then told_record place (link_at port n.frame.bytes c) n else []

-- what it is told of a record of this capture
abbrev pub told_of : ℕ → Option Source → Numbered → Comparison → List Notice
told_of place None n c = []
told_of place (Some s) n c = if s.leaves then told_left place s.port n c else told_came place s.port n c

-- what it is told of all of these, in order
abbrev pub told : ℕ → List Source → List Arrival → Comparison → List Notice
told place captures [] c = []
told place captures (a ∷ arrivals) c = told_of place (slice_get captures a.place) a.head c ++ told place captures arrivals (with_arrival captures a c)
