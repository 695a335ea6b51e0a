-- Recordings of our own switch: what it answers, and each span of it (profile).
use Rattle.std.specs.Prelude.{◌≡◌, ◌⊎◌, ℕ, ◌+◌, ◌-◌, ◌<◌, ◌≤◌, pos, Bool, true, List, ◌++◌, map, Option, Some, Contains}
use Rattle.std.specs.List.{AllByRecursion}
use Rattle.afdx_units.specs.Line.{least_size, cost_of}
use Rattle.afdx_units.specs.Time.{last_instant}
use Rattle.afdx_pcap.specs.Record.{Record}
use Rattle.afdx_table.specs.declared.rows.PortRow.{PortRow}
use Rattle.afdx_table.specs.Link.{Link, leads_to}
use Rattle.afdx_table.specs.Content.{Content}
use Rattle.afdx_table.specs.WellFormed.{IsWellFormed}
use Rattle.afdx_load.specs.Accepted.{IsAccepted}
use Rattle.afdx_grouping.specs.Scatter.{IsAcceptedWith}
use Rattle.afdx_following.specs.declared.watch.Watch.{Watch}
use Rattle.afdx_following.specs.declared.watch.Start.{Start}
use Rattle.afdx_core.specs.Merge.{Capture, merged}
use Rattle.afdx_session.specs.Headline.{own_records}
use Rattle.afdx_session.specs.Texts.{Text}
use Rattle.afdx_session.specs.Outcome.{Results, IsOutcome}
use Rattle.afdx_session.specs.Output.{output_of}
use Rattle.afdx_merging.specs.Merge.{Arrival, IsMergeOf}
use Rattle.afdx_recordings.specs.declared.recordings.Recordings.{Recordings}
use Rattle.afdx_recordings.specs.declared.stamps.Stamps.TheVariants.{Free}
use Rattle.afdx_recordings.specs.Recordings.{offset_at}
use Rattle.afdx_compare.specs.Comparison.{Comparison, watch_of, IsBegun, with_until, with_end, conform}
use Rattle.afdx_compare.specs.Sources.{sources_of}
use Rattle.afdx_compare.specs.Arrivals.{with_arrivals}
use Rattle.afdx_compare.specs.Within.{bound_at, exactly, IsKeptWithin}
use Rattle.afdx_compare.specs.Inner.Laws.{recorded_ports}
use Rattle.afdx_compare_laws.specs.Fates.{AllDiffer}
use Rattle.afdx_compare_laws.specs.Less.{varying, off_by}
use Rattle.afdx_compare_laws.specs.Spans.{cut, IsSpanOf, DifferWithinBounds}

-- each span of what a run of an accepted table answers keeps to what is proved of our switch, for each least latency up to the table's and whatever its
-- stamps are off by, if a link's frames within a bound of each other differ
abbrev pub OurAnswersAreKept : Type 0
OurAnswersAreKept = (t : Content) (texts : List Text) (results : Results) (least tolerance : ℕ) (start : Start) (until : Option ℕ) → let w = off_by tolerance (exactly t) in
    IsWellFormed t → IsAccepted t → (run : IsOutcome t texts results) → least ≤ t.latency → IsSpanOf w start until → DifferWithinBounds w t t.ports run.read
    → IsKeptWithin (cut start until (varying least (t.latency - least) w)) t t.ports run.read (output_of t (merged run.read))

-- recordings of our own switch: the latency that it takes for each frame is no less than the least one, stamps are the instants at which its lines were
-- free again, with no offset, and they are off by less than the least time from when a frame comes until it has left
pub record AreOurs (t : Content) (r : Recordings) : Type 0 where
  pub least : r.least ≤ t.latency
  pub stamps : r.stamps ≡ Free
  pub offsets : (port : ℕ) → offset_at r.offsets port ≡ pos 0
  pub later : (p : PortRow) → Contains t.ports p → r.tolerance < r.least + cost_of p.speed least_size

-- what came, and what a run answers of it at the ports that were recorded
abbrev pub captures_of : Content → Recordings → List Capture → List (List Record)
captures_of t r read = map (λ c. c.records) read ++ map (λ p. output_of t (merged read) p) (recorded_ports t r)

-- no record of these captures is later than an instant
abbrev pub AreBy : ℕ → List (List Record) → Type 0
AreBy at captures = AllByRecursion (AllByRecursion (λ x. x.stamp ≤ at)) captures

-- each link's own frames of the same bytes came at least as far apart as the tolerance and the bound of each port that it leads to
abbrev pub AreApart : Watch → Content → List Capture → Type 0
AreApart w t read = (p : PortRow) → Contains t.ports p → (l : Link) → Contains t.links l → leads_to p.id l ≡ true → (bound : ℕ) → bound_at w t p l ≡ Some bound
    → AllDiffer (bound + w.tolerance) (own_records t l read)

-- recordings are whole: they begin with the switch at rest, and end when all has left, by exact stamps
pub record AreWhole (r : Recordings) (until : ℕ) (captures : List (List Record)) : Type 0 where
  pub rest : r.rest ≡ true
  pub exact : r.tolerance ≡ 0
  pub by_end : AreBy until captures

-- recordings are any span: its beginning and the tolerance come to an instant that pcap can hold, its end is no less than the tolerance,
-- and each link's own frames of the same bytes came apart
pub record AreOfSpan (t : Content) (r : Recordings) (read : List Capture) (from until : ℕ) : Type 0 where
  pub in_time : from + r.tolerance ≤ last_instant
  pub long : r.tolerance ≤ until
  pub apart : AreApart (watch_of t r from) t read

-- what a run answers is said to conform, if its table is accepted for these latencies; and so is each span of it, if frames of a link within a bound of
-- each other differ
abbrev pub OurRunsConform : Type 0
OurRunsConform = (t : Content) (texts : List Text) (results : Results) (r : Recordings) (from until : ℕ) (keeping : Bool) (arrivals : List Arrival) (first : Comparison)
    → IsWellFormed t → IsAcceptedWith (t.latency - r.least) t → (run : IsOutcome t texts results) → AreOurs t r
    → let captures = captures_of t r run.read in
    AreWhole r until captures ⊎ AreOfSpan t r run.read from until → IsBegun t r from keeping first → IsMergeOf (sources_of t r).clocks captures arrivals
    → conform (with_end (with_arrivals (sources_of t r).captures arrivals (with_until until first))) ≡ true
