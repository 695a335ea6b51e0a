-- What is reported of a run's counters.
use Rattle.std.specs.Prelude.{◌≡◌, ◌||◌, Bool, string_bytes}
use Rattle.afdx_count.specs.Tally.{Tally}
use Rattle.afdx_arguments.specs.declared.request.RunOptions.{RunOptions}
use Rattle.afdx_verdict.specs.Verdict.{verdict_of}
use Rattle.afdx_serve.specs.declared.reports.Report.{Report}
use Rattle.afdx_serve.specs.Verdicts.{text_of, is_found}

-- what is asked of the run can depend on its verdict
abbrev pub needs_verdict : RunOptions → Bool
needs_verdict o = o.verdict || o.fail_on.policed || o.fail_on.filtered || o.fail_on.lost

-- a report has the text of a run's counters, and says whether there is something that the run is to fail on
pub record IsReportOf (options : RunOptions) (counts : Tally) (report : Report) : Type 0 where
  pub text : string_bytes report.text ≡ text_of options counts
  pub found : report.is_found ≡ is_found options.fail_on (verdict_of counts)
