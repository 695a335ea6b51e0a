-- The counts of a whole run, from the lists of its arrivals (profile): each is a number of arrivals, of frames or of copies.
use Rattle.std.specs.Prelude.{ℕ, ◌==◌, Bool, true, false, if◌then◌else◌, List, [], ◌∷◌, length, map, filter, count_by}
use Rattle.afdx_units.specs.declared.line.Priority.{Priority}
use Rattle.afdx_units.specs.declared.line.Priority.TheVariants.{High, Low}
use Rattle.afdx_table.specs.declared.rows.PortRow.{PortRow}
use Rattle.afdx_table.specs.Link.{Link}
use Rattle.afdx_table.specs.Content.{Content}
use Rattle.afdx_filter.specs.declared.outcome.Verdict.{Verdict}
use Rattle.afdx_filter.specs.declared.outcome.Verdict.TheVariants.{Cut, Short, Long, Foreign, NoLink, WrongPort, TooBig, Clean}
use Rattle.afdx_port.specs.declared.Settings.{Settings}
use Rattle.afdx_port.specs.declared.Item.{Item}
use Rattle.afdx_port.specs.Service.{Event, service, sent_of, aged_of}
use Rattle.afdx_port.specs.Admission.{fits, admitted}
use Rattle.afdx_core.specs.declared.step.Row.{Row}
use Rattle.afdx_core.specs.declared.step.Fate.{Fate}
use Rattle.afdx_core.specs.declared.step.Fate.TheVariants.{Filtered, Policed, Passed}
use Rattle.afdx_core.specs.Step.{Step}
use Rattle.afdx_core.specs.Rows.{each_after, fates_of, feed_of}
use Rattle.afdx_core.specs.State.{Run, step_of}
use Rattle.afdx_isolation.specs.Table.{settings_of}
use Rattle.afdx_count.specs.declared.counters.InCount.{InCount}
use Rattle.afdx_count.specs.declared.counters.LinkCount.{LinkCount}
use Rattle.afdx_count.specs.declared.counters.OutCount.{OutCount}
use Rattle.afdx_count.specs.declared.ports.PortTally.{PortTally}
use Rattle.afdx_count.specs.declared.links.LinkTally.{LinkTally}
use Rattle.afdx_count.specs.Counting.{capped, is_of}
use Rattle.afdx_count.specs.Tally.{Tally, noted}

-- how many pass the test, as far as a counter goes
abbrev pub counted : {X : Type 0} → (X → Bool) → List X → ℕ
counted test xs = capped (count_by test xs)

-- ---- the arrivals at a port

-- the verdict says that the frame was not captured whole
abbrev pub is_partial : Verdict → Bool
is_partial Cut = true
is_partial _ = false

-- the verdict says that the frame is shorter than any of Ethernet
abbrev pub is_short : Verdict → Bool
is_short Short = true
is_short _ = false

-- the verdict says that the frame is longer than any of Ethernet
abbrev pub is_long : Verdict → Bool
is_long Long = true
is_long _ = false

-- the verdict says that the frame's address has another constant than the network's
abbrev pub is_foreign : Verdict → Bool
is_foreign Foreign = true
is_foreign _ = false

-- the verdict says that the table has no link of the frame's number
abbrev pub has_no_link : Verdict → Bool
has_no_link NoLink = true
has_no_link _ = false

-- the verdict says that the frame came in at another port than its link's
abbrev pub is_at_wrong_port : Verdict → Bool
is_at_wrong_port WrongPort = true
is_at_wrong_port _ = false

-- the verdict says that the frame is greater than its link's Smax
abbrev pub is_too_big : Verdict → Bool
is_too_big TooBig = true
is_too_big _ = false

-- the verdict says that the frame is clean, whichever its link
abbrev pub is_clean : Verdict → Bool
is_clean (Clean link) = true
is_clean _ = false

-- the arrivals at a port
abbrev pub arrivals_at : ℕ → List Row → List Row
arrivals_at port rows = filter (λ row. port == row.in_port) rows

-- how many arrivals there are, and how many of each verdict
abbrev pub input_counts : List Row → InCount
input_counts rows = record {
  seen = capped (length rows);
  cut = counted (λ row. is_partial row.verdict) rows;
  short = counted (λ row. is_short row.verdict) rows;
  long = counted (λ row. is_long row.verdict) rows;
  foreign = counted (λ row. is_foreign row.verdict) rows;
  no_link = counted (λ row. has_no_link row.verdict) rows;
  wrong_port = counted (λ row. is_at_wrong_port row.verdict) rows;
  too_big = counted (λ row. is_too_big row.verdict) rows;
  clean = counted (λ row. is_clean row.verdict) rows;
}

-- ---- the frames of a link

-- the frame was passed for the link of this number
abbrev pub is_passed : ℕ → Fate → Bool
is_passed i (Passed j) = i == j
is_passed i (Policed j) = false
is_passed i (Filtered verdict) = false

-- the frame was dropped by the policing of this link
abbrev pub is_policed : ℕ → Fate → Bool
is_policed i (Passed j) = false
is_policed i (Policed j) = i == j
is_policed i (Filtered verdict) = false

-- how many frames of a link were passed, and how many were policed
abbrev pub link_counts : ℕ → List Fate → LinkCount
link_counts i fates = record { passed = counted (is_passed i) fates; policed = counted (is_policed i) fates }

-- ---- the copies at an output port

-- the items of a feed that are refused: each that does not fit beside those that were admitted before it
unfoldable pub turned_away : Settings → List Item → List Item
turned_away s feed = each_after (λ before x. if fits s (admitted s before) x then [] else x ∷ []) [] feed

-- how many of these copies have the priority
abbrev pub of_priority : Priority → List Item → ℕ
of_priority priority items = counted (λ item. is_of priority item.priority) items

-- how many copies of a priority were offered, and how many were refused, discarded and sent, by these events
abbrev pub output_counts : Priority → Settings → List Item → List Event → OutCount
output_counts priority s feed events = record {
  offered = of_priority priority feed;
  full = of_priority priority (turned_away s feed);
  aged = counted (λ a. is_of priority a.item.priority) (aged_of events);
  sent = counted (λ e. is_of priority e.item.priority) (sent_of events);
}

-- ---- the run

-- the counters of a port over a whole run
abbrev pub port_counts : Content → List Row → (PortRow → List Event) → PortRow → PortTally
port_counts t rows events p = record {
  id = p.id;
  input = input_counts (arrivals_at p.id rows);
  high = output_counts High (settings_of t.latency p) (feed_of t p.id rows) (events p);
  low = output_counts Low (settings_of t.latency p) (feed_of t p.id rows) (events p);
}

-- the counters of a link over a whole run
abbrev pub link_tally : Content → List Row → Link → LinkTally
link_tally t rows l = record { id = l.id; priority = l.priority; count = link_counts l.id (fates_of t rows) }

-- the counts of these arrivals, and of these events of the ports
abbrev pub counts_with : Content → List Row → (PortRow → List Event) → Tally
counts_with t rows events = record { ports = map (port_counts t rows events) t.ports; links = map (link_tally t rows) t.links }

-- what the arrivals alone come to: nothing that a port carried out is counted yet
abbrev pub counts_so_far : Content → List Row → Tally
counts_so_far t rows = counts_with t rows (λ p. [])

-- all that a port carries out
abbrev pub events_of : Content → List Row → PortRow → List Event
events_of t rows p = service (settings_of t.latency p) 0 (admitted (settings_of t.latency p) (feed_of t p.id rows))

-- the counts of a run of these arrivals, at its end
abbrev pub counts_of : Content → List Row → Tally
counts_of t rows = counts_with t rows (events_of t rows)

-- ---- what the switch did with each arrival

-- a switch that took these arrivals
abbrev pub run_after : Content → List Row → Run
run_after t rows = record { table = t; rows = rows; latest = 0; handed = map (λ p. 0) t.ports; finished = false }

-- what the switch did with each of these arrivals, in order
abbrev pub steps_of : Content → List Row → List Step
steps_of t rows = each_after (λ before row. step_of (run_after t before) row ∷ []) [] rows

-- the counters with all of these arrivals noted, one after the other
abbrev pub noted_all : List Step → Tally → Tally
noted_all [] t = t
noted_all (step ∷ steps) t = noted_all steps (noted step t)
