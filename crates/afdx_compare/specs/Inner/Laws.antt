-- The laws of what recordings have to keep to.
use Rattle.std.specs.Prelude.{◌≡◌, ◌↔◌, ℕ, ◌-◌, ◌≤◌, ◌==◌, true, Bool, List, [], ◌∷◌, map, filter, drop, length, if◌then◌else◌, Some, Contains}
use Rattle.std.specs.List.{AllByRecursion}
use Rattle.afdx_units.specs.Time.{last_instant}
use Rattle.afdx_pcap.specs.Record.{Record}
use Rattle.afdx_account.specs.Level.{InOrder}
use Rattle.afdx_filter.specs.Frame.{frame_of}
use Rattle.afdx_table.specs.declared.rows.PortRow.{PortRow}
use Rattle.afdx_table.specs.Link.{Link}
use Rattle.afdx_table.specs.Content.{Content}
use Rattle.afdx_table.specs.WellFormed.{IsWellFormed}
use Rattle.afdx_load.specs.Accepted.{IsAccepted}
use Rattle.afdx_grouping.specs.Scatter.{IsAcceptedWith}
use Rattle.afdx_following.specs.declared.watch.Watch.{Watch}
use Rattle.afdx_core.specs.Merge.{Capture}
use Rattle.afdx_session.specs.Texts.{Text, AreOfPorts}
use Rattle.afdx_session.specs.Outcome.{Results}
use Rattle.afdx_session.specs.Headline.{IsIsolatedAt, IsIsolated, own_records}
use Rattle.afdx_merging.specs.declared.clock.Clock.{Clock}
use Rattle.afdx_merging.specs.Merge.{Arrival, moved, IsMergeOf}
use Rattle.afdx_recordings.specs.declared.recordings.Recordings.{Recordings}
use Rattle.afdx_recordings.specs.Recordings.{is_recorded}
use Rattle.afdx_compare.specs.Comparison.{Comparison, watch_of, IsBegun, with_until, with_end, conform}
use Rattle.afdx_compare.specs.Sources.{output_clock, sources_of}
use Rattle.afdx_compare.specs.Arrivals.{with_arrivals}
use Rattle.afdx_compare.specs.Within.{IsKeptWithin, exactly}

-- each link's own frames came in the order of their stamps, as those of a capture do
abbrev pub ComeInOrder : Content → List Capture → Type 0
ComeInOrder t read = (l : Link) → Contains t.links l → InOrder 0 (map frame_of (own_records t l read))

-- over whole and exact captures of an accepted table, what is asked of any switch is the headline
abbrev pub ExactlyIsIsolated : Type 0
ExactlyIsIsolated = (t : Content) (read : List Capture) (out : PortRow → List Record) → IsWellFormed t → IsAccepted t → ComeInOrder t read
    → IsKeptWithin (exactly t) t t.ports read out ↔ ((p : PortRow) → Contains t.ports p → IsIsolatedAt t read p (out p))

-- whatever a run of an accepted table answers keeps to what is asked of any switch
abbrev pub OurRunsKeepToIt : Type 0
OurRunsKeepToIt = (t : Content) (texts : List Text) (results : Results) → IsWellFormed t → IsAccepted t → AreOfPorts t texts → (run : IsIsolated t texts results)
    → IsKeptWithin (exactly t) t t.ports run.read run.out

-- ---- what conforms is kept to

-- what is known of the recorders and of the switch, if the recordings begin and end at these instants
abbrev pub watch_within : Content → Recordings → ℕ → ℕ → Watch
watch_within t r from until = record (watch_of t r from) { until = Some until }

-- the ports that were recorded
abbrev pub recorded_ports : Content → Recordings → List PortRow
recorded_ports t r = filter (λ p. is_recorded r.outputs p.id) t.ports

-- the records at the first places are what came at these ports
abbrev pub came_in : List PortRow → List (List Record) → List Capture
came_in [] captures = []
came_in (p ∷ ps) [] = []
came_in (p ∷ ps) (rs ∷ captures) = record { port = p.id; records = rs } ∷ came_in ps captures

-- a record with its stamp by a clock
abbrev pub at_clock : Clock → Record → Record
at_clock c x = record x { stamp = moved c x.stamp }

-- what was recorded at a port, by the clock that all is compared by
abbrev pub by_clock : Recordings → PortRow → List Record → List Record
by_clock r p rs = map (at_clock (output_clock r p)) rs

-- what left at a port, if these are in turn the captures of these ports
abbrev pub left_among : Recordings → List PortRow → List (List Record) → PortRow → List Record
left_among r [] captures at = []
left_among r (p ∷ ps) [] at = []
left_among r (p ∷ ps) (rs ∷ captures) at = if p.id == at.id then by_clock r p rs else left_among r ps captures at

-- what left at a port that was recorded: those captures are at the places after what came
abbrev pub left_out : Content → Recordings → List (List Record) → PortRow → List Record
left_out t r captures at = left_among r (recorded_ports t r) (drop (length t.ports) captures) at

-- if nothing speaks against the switch after all of these captures were taken, it keeps to what is proved of ours
abbrev pub ConformsIsKept : Type 0
ConformsIsKept = (t : Content) (r : Recordings) (from until : ℕ) (keeping : Bool) (captures : List (List Record)) (arrivals : List Arrival) (first : Comparison)
    → IsWellFormed t → IsAcceptedWith (t.latency - r.least) t → AllByRecursion (AllByRecursion (λ x. x.stamp ≤ last_instant)) captures
    → IsBegun t r from keeping first → IsMergeOf (sources_of t r).clocks captures arrivals
    → conform (with_end (with_arrivals (sources_of t r).captures arrivals (with_until until first))) ≡ true
    → IsKeptWithin (watch_within t r from until) t (recorded_ports t r) (came_in t.ports captures) (left_out t r captures)
