-- When links were policed, and when frames came, as rows (profile).
use Rattle.std.specs.Prelude.{ℕ, ◌-◌, codes, decimal, Bool, List, [], ◌∷◌, ◌++◌, length, flat_map}
use Rattle.afdx_table.specs.Link.{Link}
use Rattle.afdx_core.specs.declared.step.Row.{Row}
use Rattle.afdx_core.specs.State.{Run}
use Rattle.afdx_spells.specs.declared.spell.Spell.{Spell}
use Rattle.afdx_measure.specs.Policing.{spells_in, stamp_at}
use Rattle.afdx_csv.specs.Csv.{optional, row}
use Rattle.afdx_rows.specs.Counts.{count_columns, network_run_columns}
use Rattle.afdx_rows.specs.Delays.{end_columns, measures_rows}

-- the columns of a survey: of the report, of what was measured, of spells and of when frames came
abbrev pub survey_columns : List (List ℕ)
survey_columns = count_columns ++ codes "least" ∷ codes "greatest" ∷ codes "bound" ∷ codes "slack" ∷ codes "slack_per_mille" ∷ codes "occupied"
    ∷ codes "buffer" ∷ codes "at" ∷ codes "from" ∷ codes "to" ∷ codes "least_early" ∷ codes "greatest_early" ∷ codes "frames" ∷ []

-- the columns of a network's survey, in which from and to are ports, so that these stamps have other columns
abbrev pub network_survey_columns : List (List ℕ)
network_survey_columns = network_run_columns ++ (codes "from" ∷ codes "to" ∷ end_columns)
    ++ codes "first" ∷ codes "last" ∷ codes "least_early" ∷ codes "greatest_early" ∷ codes "frames" ∷ []

-- ---- rows of the switch of a name, under some columns, of which two have the stamps

-- how many frames of a link were policed in a spell, the stamps of the first and of the last, and how early they came, in ns
abbrev pub spell_row : List (List ℕ) → List ℕ → List ℕ × List ℕ → ℕ → Spell → List ℕ
spell_row columns switch stamp_columns link s = row columns ((codes "switch", switch) ∷ (codes "kind", codes "spell") ∷ (codes "link", decimal link)
    ∷ (codes "policed", decimal s.count) ∷ (stamp_columns.0, decimal s.first) ∷ (stamp_columns.1, decimal s.last) ∷ (codes "least_early", decimal s.least)
    ∷ (codes "greatest_early", decimal s.greatest) ∷ [])

-- the rows of all spells of a link
abbrev pub spell_rows : List (List ℕ) → List ℕ → List ℕ × List ℕ → Run → Link → List ℕ
spell_rows columns switch stamp_columns r l = flat_map (spell_row columns switch stamp_columns l.id) (spells_in r l)

-- the stamps of the first and of the last frame that came, and how many came
abbrev pub span_row : List (List ℕ) → List ℕ → List ℕ × List ℕ → List Row → List ℕ
span_row columns switch stamp_columns rows = row columns ((codes "switch", switch) ∷ (codes "kind", codes "span") ∷ (stamp_columns.0, optional (stamp_at 0 rows))
    ∷ (stamp_columns.1, optional (stamp_at (length rows - 1) rows)) ∷ (codes "frames", decimal (length rows)) ∷ [])

-- the rows of each spell of each link, and of when frames came
abbrev pub stamped_rows : List (List ℕ) → List ℕ → List ℕ × List ℕ → Run → List ℕ
stamped_rows columns switch stamp_columns r = flat_map (spell_rows columns switch stamp_columns r) r.table.links ++ span_row columns switch stamp_columns r.rows

-- the rows of spells of a switch of a network, and of when frames came
abbrev pub policing_rows : List ℕ → Run → List ℕ
policing_rows switch r = stamped_rows network_survey_columns switch (codes "first", codes "last") r

-- the rows of what is measured of a finished run, and then of its spells, of a switch without a name
abbrev pub survey_rows : List (List ℕ) → Bool → Run → List ℕ
survey_rows columns promised r = measures_rows columns promised r ++ stamped_rows columns [] (codes "from", codes "to") r
