-- When links were policed in a run, and when frames came at all (profile).
use Rattle.std.specs.Prelude.{ℕ, ◌-◌, codes, Bool, List, [], ◌∷◌, ◌++◌, length, flat_map, slice_get, Option, Some, if◌then◌else◌}
use Rattle.std.specs.Option.{option_map}
use Rattle.afdx_units.specs.Time.{bag_ns}
use Rattle.afdx_table.specs.Link.{Link}
use Rattle.afdx_load.specs.Load.{terms_of}
use Rattle.afdx_account.specs.Early.{early_by}
use Rattle.afdx_account.specs.Policing.{passed_frames}
use Rattle.afdx_core.specs.declared.step.Row.{Row}
use Rattle.afdx_core.specs.Rows.{each_after, says_clean, passes, account_frames, frame_of_row}
use Rattle.afdx_core.specs.State.{Run}
use Rattle.afdx_spells.specs.declared.spell.Excess.{Excess}
use Rattle.afdx_spells.specs.declared.spell.Spell.{Spell}
use Rattle.afdx_spells.specs.Spells.{spells_of}
use Rattle.afdx_spells.specs.Lines.{spell_line}
use Rattle.afdx_lines.specs.Lines.{line}
use Rattle.afdx_measure.specs.Report.{report_of}

-- by how many ns a link's frame came too early for those that were passed
abbrev pub early_after : Link → List Row → Row → ℕ
early_after l before row = early_by (terms_of l) (passed_frames (terms_of l) (account_frames l.id before)) (frame_of_row row)

-- a clean frame of a link that its policing did not pass, and how early it came
abbrev pub excess_by : Link → List Row → Row → List Excess
excess_by l before row =
    if says_clean l.id row.verdict then (if passes l before row then [] else record { at = row.stamp; early = early_after l before row } ∷ []) else []

-- the policed frames of a link, in order, and how early each came
abbrev pub excess_of : Link → List Row → List Excess
excess_of l rows = each_after (excess_by l) [] rows

-- the spells in which a link was policed
abbrev pub spells_in : Run → Link → List Spell
spells_in r l = spells_of (bag_ns l.bag) (excess_of l r.rows)

-- the lines of a link's spells
abbrev pub spell_lines : Run → Link → List ℕ
spell_lines r l = flat_map (spell_line l.id) (spells_in r l)

-- ---- when frames came

-- the stamp of the arrival at a place, in ns
abbrev pub stamp_at : ℕ → List Row → Option ℕ
stamp_at place rows = option_map (λ row. row.stamp) (slice_get rows place)

-- the line of when frames came: the first and the last stamp, and how many frames there were
abbrev pub span_line : List Row → List ℕ
span_line rows = line ((codes "span from ", stamp_at 0 rows) ∷ (codes " to ", stamp_at (length rows - 1) rows) ∷ (codes " frames ", Some (length rows)) ∷ [])

-- the lines of the spells of all links, and then that of when frames came
abbrev pub policing_of : Run → List ℕ
policing_of r = flat_map (spell_lines r) r.table.links ++ span_line r.rows

-- what a survey says of a finished run beside its counts
abbrev pub survey_of : Bool → Run → List ℕ
survey_of promised r = report_of promised r ++ policing_of r
