-- What is reported of the run of a folder's captures, of which nothing is put (profile).
use Rattle.std.specs.Prelude.{◌≡◌, ℕ, Bool, false, not, List, [], ◌++◌, Option, Contains}
use Rattle.afdx_table.specs.declared.rows.PortRow.{PortRow}
use Rattle.afdx_table.specs.Content.{Content}
use Rattle.afdx_core.specs.State.{Run, State}
use Rattle.afdx_count.specs.Tally.{Tally}
use Rattle.afdx_measure.specs.Ports.{IsWithinTheLoad}
use Rattle.afdx_measure.specs.Report.{report_of}
use Rattle.afdx_csv.specs.declared.form.Form.{Form}
use Rattle.afdx_csv.specs.declared.form.Form.TheVariants.{Lines, Csv}
use Rattle.afdx_csv.specs.Csv.{heading}
use Rattle.afdx_rows.specs.Counts.{counts_rows}
use Rattle.afdx_rows.specs.Delays.{measure_columns, measures_rows}
use Rattle.afdx_rows.specs.Spells.{survey_columns, survey_rows}
use Rattle.afdx_measure.specs.Policing.{survey_of}
use Rattle.afdx_session.specs.Texts.{Text}
use Rattle.afdx_session.specs.Measured.{IsMeasuredRun}
use Rattle.afdx_arguments.specs.declared.request.Inputs.{Inputs}
use Rattle.afdx_folder.specs.Files.{Files}
use Rattle.afdx_serve.specs.Runs.{HasPlan, HasCaptures}
use Rattle.afdx_serve.specs.Verdicts.{counts_text}

-- the files hold a table, accepted unless the run is unchecked, and captures of its ports, whose run came to these counts and to this
-- finished switch
pub record IsMeasured (inputs : Inputs) (files : Option Files) (tally : Tally) (done : State) : Type 0 where
  pub table : Content
  pub captures : List Text
  pub has_plan : HasPlan files inputs table
  pub has_captures : HasCaptures files inputs.input.now table captures
  pub run : IsMeasuredRun (not inputs.unchecked) table captures tally done
  -- over an accepted table the bounds are kept: no delay is above its bound, and no buffer held more than the least that its load asks for
  pub within : inputs.unchecked ≡ false → (p : PortRow) → Contains table.ports p → IsWithinTheLoad done.run p

-- what is written of a finished run, in either form
abbrev pub measures_text : Form → Bool → Run → List ℕ
measures_text Lines promised r = report_of promised r
measures_text Csv promised r = heading measure_columns ++ measures_rows measure_columns promised r

-- `measure` reports this of the files; over a checked table it promises the bounds
abbrev pub MeasuresTo : Form → Inputs → Option Files → List ℕ → Type 0
MeasuresTo form inputs files text = (tally : Tally) × (done : State) × IsMeasured inputs files tally done × (text ≡ measures_text form (not inputs.unchecked) done.run)

-- what a survey writes: the report of `run`, and then what was measured, and when links were policed and frames came
abbrev pub survey_text : Form → Bool → Tally → Run → List ℕ
survey_text Lines promised counts r = counts_text Lines counts ++ survey_of promised r
survey_text Csv promised counts r = heading survey_columns ++ counts_rows survey_columns [] counts ++ survey_rows survey_columns promised r

-- `survey` reports this of the files
abbrev pub SurveysTo : Form → Inputs → Option Files → List ℕ → Type 0
SurveysTo form inputs files text =
    (tally : Tally) × (done : State) × (is : IsMeasured inputs files tally done) × (text ≡ survey_text form (not inputs.unchecked) is.run.whole.counts done.run)
