-- The line of an arrival, as it is known when the arrival is taken.
use Rattle.std.specs.Prelude.{ℕ, ◌≡◌, true, false, if◌then◌else◌, codes, decimal, List, [], ◌∷◌, ◌++◌, map, flat_map}
use Rattle.afdx_table.specs.Content.{Content}
use Rattle.afdx_core.specs.declared.step.Row.{Row}
use Rattle.afdx_core.specs.Rows.{each_after, named, fate_of}
use Rattle.afdx_core.specs.State.{Run, offers_of}
use Rattle.afdx_trace.specs.declared.shown.Shown.{Shown}
use Rattle.afdx_trace.specs.Csv.{next_field, joined_by, optional}
use Rattle.afdx_trace.specs.Shown.{is_shown}
use Rattle.afdx_trace.specs.Arrivals.{fate_word, early_in, frame_fields, shown_line}
use Rattle.afdx_trace.specs.Inner.Laws.{full_ports}

-- a switch that took these arrivals, of which nothing was handed out
abbrev pub run_with : Content → List Row → Run
run_with t rows = record { table = t; rows = rows; latest = 0; handed = []; finished = false }

-- the ports that answered Full to a copy of the next arrival
abbrev pub full_then : Content → List Row → Row → List ℕ
full_then t before row = full_ports (offers_of (run_with t before) row)

-- the fields that say what becomes of the next arrival
abbrev pub told_fields : Content → List Row → Row → List (List ℕ)
told_fields t before row =
    fate_word (fate_of t before row) ∷ optional (early_in (named t row.verdict) before row) ∷ joined_by (codes ";") (map decimal (full_then t before row)) ∷ []

-- the line of the next arrival, if it is shown
abbrev pub told_line : Shown → Content → List Row → Row → List ℕ
told_line shown t before row = if is_shown shown row.link then frame_fields shown before row ++ flat_map next_field (told_fields t before row) ++ codes "\n" else []

-- the lines of all of these arrivals
unfoldable pub told_lines : Shown → Content → List Row → List ℕ
told_lines shown t rows = each_after (told_line shown t) [] rows

-- the law: once all is carried out, the lines of arrivals are those that were told when these were taken
abbrev pub LinesAreTold : Type 0
LinesAreTold = (s : Shown) (r : Run) → r.finished ≡ true → each_after (shown_line s r) [] r.rows ≡ told_lines s r.table r.rows
