-- What is written of a run's counters, and whether there is something that it is to fail on (profile).
use Rattle.std.specs.Prelude.{ℕ, ◌&&◌, ◌||◌, ◌++◌, nat_lt, Bool, true, false, List, []}
use Rattle.afdx_count.specs.Tally.{Tally}
use Rattle.afdx_count.specs.Report.{report_of}
use Rattle.afdx_verdict.specs.declared.summed.RunVerdict.{RunVerdict}
use Rattle.afdx_verdict.specs.Verdict.{verdict_of}
use Rattle.afdx_verdict.specs.Line.{verdict_line}
use Rattle.afdx_arguments.specs.declared.fail_on.FailOn.{FailOn}
use Rattle.afdx_arguments.specs.declared.request.RunOptions.{RunOptions}
use Rattle.afdx_csv.specs.declared.form.Form.{Form}
use Rattle.afdx_csv.specs.declared.form.Form.TheVariants.{Lines, Csv}
use Rattle.afdx_csv.specs.Csv.{heading}
use Rattle.afdx_rows.specs.Counts.{run_columns, counts_rows, verdict_row}

-- the counters of a run, in either form
abbrev pub counts_text : Form → Tally → List ℕ
counts_text Lines counts = report_of counts
counts_text Csv counts = heading run_columns ++ counts_rows run_columns [] counts

-- the verdict of a run, in either form
abbrev pub verdict_text : Form → RunVerdict → List ℕ
verdict_text Lines = verdict_line
verdict_text Csv = verdict_row

-- the verdict of a run, if it is asked for
abbrev pub verdict_part : Form → Bool → Tally → List ℕ
verdict_part form false counts = []
verdict_part form true counts = verdict_text form (verdict_of counts)

-- the report of a run, with the verdict as its last line if it is asked for
abbrev pub text_of : RunOptions → Tally → List ℕ
text_of options counts = counts_text options.form counts ++ verdict_part options.form options.verdict counts

-- a run has something that it is to fail on
abbrev pub is_found : FailOn → RunVerdict → Bool
is_found chosen v = (chosen.policed && nat_lt 0 v.policed) || (chosen.filtered && nat_lt 0 v.filtered) || (chosen.lost && nat_lt 0 v.lost)
