-- The files of a run of our own switch: what it read, and what it put (profile).
use Rattle.std.specs.Prelude.{◌≡◌, ◌⊎◌, ℕ, ◌+◌, ◌-◌, ◌≤◌, Bool, true, List, ◌++◌, map, filter}
use Rattle.std.specs.List.{AllByRecursion}
use Rattle.afdx_units.specs.Time.{second, last_second}
use Rattle.afdx_pcap.specs.Record.{Record}
use Rattle.afdx_table.specs.Content.{Content}
use Rattle.afdx_table.specs.WellFormed.{IsWellFormed}
use Rattle.afdx_grouping.specs.Scatter.{IsAcceptedWith}
use Rattle.afdx_core.specs.Merge.{Capture, merged}
use Rattle.afdx_session.specs.Texts.{Text}
use Rattle.afdx_session.specs.Outcome.{Results, IsOutcome}
use Rattle.afdx_merging.specs.Merge.{Arrival, IsMergeOf}
use Rattle.afdx_merging.specs.Read.{AreCaptures}
use Rattle.afdx_recordings.specs.declared.recordings.Recordings.{Recordings}
use Rattle.afdx_recordings.specs.Recordings.{is_recorded}
use Rattle.afdx_compare.specs.Comparison.{Comparison, IsBegun, with_until, with_end, conform}
use Rattle.afdx_compare.specs.Sources.{sources_of}
use Rattle.afdx_compare.specs.Arrivals.{with_arrivals}
use Rattle.afdx_compare_laws.specs.Runs.{AreOurs, AreWhole, AreOfSpan}

-- the files that a run read, and those that it put of the ports that were recorded
abbrev pub files_of : Recordings → List Text → Results → List (List ℕ)
files_of r texts results = map (λ x. x.1) texts ++ map (λ x. x.1) (filter (λ x. is_recorded r.outputs x.0) results.captures)

-- each frame came at least a second before the last second that pcap can hold begins, so that what leaves can be read again
abbrev pub HaveComeEarly : List Capture → Type 0
HaveComeEarly read = AllByRecursion (λ a. a.frame.stamp + second ≤ last_second) (merged read)

-- what is read from the files of a run is said to conform, as what it answers is
abbrev pub OurFilesConform : Type 0
OurFilesConform = (t : Content) (texts : List Text) (results : Results) (r : Recordings) (from until : ℕ) (keeping : Bool) (captures : List (List Record)) (arrivals : List Arrival)
    (first : Comparison) → IsWellFormed t → IsAcceptedWith (t.latency - r.least) t → (run : IsOutcome t texts results) → HaveComeEarly run.read → AreOurs t r
    → AreCaptures (files_of r texts results) captures → AreWhole r until captures ⊎ AreOfSpan t r run.read from until → IsBegun t r from keeping first
    → IsMergeOf (sources_of t r).clocks captures arrivals → conform (with_end (with_arrivals (sources_of t r).captures arrivals (with_until until first))) ≡ true
