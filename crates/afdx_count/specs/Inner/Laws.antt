-- Laws of the counts.
use Rattle.std.specs.Prelude.{◌≡◌, ℕ, ◌+◌, ◌<◌, [], ◌∷◌, ◌++◌, List, length, Some}
use Rattle.afdx_units.specs.declared.line.Priority.{Priority}
use Rattle.afdx_table.specs.Link.{Link}
use Rattle.afdx_table.specs.Content.{Content, link_row}
use Rattle.afdx_table.specs.WellFormed.{IsWellFormed}
use Rattle.afdx_port.specs.declared.Settings.{Settings}
use Rattle.afdx_port.specs.declared.Item.{Item}
use Rattle.afdx_port.specs.Service.{service}
use Rattle.afdx_port.specs.Admission.{admitted}
use Rattle.afdx_core.specs.declared.step.Row.{Row}
use Rattle.afdx_core.specs.Rows.{own_frames, fates_of}
use Rattle.afdx_core.specs.State.{Run, step_of, after_finish}
use Rattle.afdx_count.specs.declared.counters.InCount.{InCount}
use Rattle.afdx_count.specs.declared.counters.OutCount.{OutCount}
use Rattle.afdx_count.specs.Counting.{greatest_count}
use Rattle.afdx_count.specs.Tally.{fresh, noted, ended_tally}
use Rattle.afdx_count.specs.Run.{input_counts, link_counts, output_counts, counts_so_far, counts_of, run_after, steps_of, noted_all}

-- counters at 0 are the counts of no arrivals
abbrev pub StartsWithNone : Type 0
StartsWithNone = (t : Content) → fresh t ≡ counts_so_far t []

-- the note of an arrival makes the counts of the arrivals before it those of one more
abbrev pub NoteCountsOneMore : Type 0
NoteCountsOneMore = (r : Run) (row : Row) → IsWellFormed r.table → noted (step_of r row) (counts_so_far r.table r.rows) ≡ counts_so_far r.table (r.rows ++ row ∷ [])

-- the end makes the counts of all arrivals the counts of the run
abbrev pub EndCountsTheRun : Type 0
EndCountsTheRun = (r : Run) → IsWellFormed r.table → ended_tally (after_finish r) (counts_so_far r.table r.rows) ≡ counts_of r.table r.rows

-- so the notes of all arrivals, and then the end, make the counts of the run
abbrev pub NotesCountTheRun : Type 0
NotesCountTheRun = (t : Content) (rows : List Row) → IsWellFormed t
    → ended_tally (after_finish (run_after t rows)) (noted_all (steps_of t rows) (fresh t)) ≡ counts_of t rows

-- ---- sums, while no counter is at its greatest value

-- the frames of all verdicts together
abbrev pub sum_of_verdicts : InCount → ℕ
sum_of_verdicts c = c.cut + c.short + c.long + c.foreign + c.no_link + c.wrong_port + c.too_big + c.clean

-- each arrival has one verdict
abbrev pub SeenIsTheSum : Type 0
SeenIsTheSum = (rows : List Row) → (input_counts rows).seen < greatest_count → (input_counts rows).seen ≡ sum_of_verdicts (input_counts rows)

-- each clean frame of a link is passed or policed
abbrev pub PassedAndPolicedAreClean : Type 0
PassedAndPolicedAreClean = (t : Content) (l : Link) (rows : List Row) → link_row t l.id ≡ Some l
    → (link_counts l.id (fates_of t rows)).passed < greatest_count → (link_counts l.id (fates_of t rows)).policed < greatest_count
    → (link_counts l.id (fates_of t rows)).passed + (link_counts l.id (fates_of t rows)).policed ≡ length (own_frames l.id rows)

-- the counts of the copies of a priority at a port, at the end
abbrev pub copies_at_end : Priority → Settings → List Item → OutCount
copies_at_end priority s feed = output_counts priority s feed (service s 0 (admitted s feed))

-- each copy that was offered was refused, discarded or sent
abbrev pub OfferedIsTheSum : Type 0
OfferedIsTheSum = (priority : Priority) (s : Settings) (feed : List Item) → (copies_at_end priority s feed).offered < greatest_count
    → (copies_at_end priority s feed).offered ≡ (copies_at_end priority s feed).full + (copies_at_end priority s feed).aged + (copies_at_end priority s feed).sent
