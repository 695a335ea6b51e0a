use Rattle.std.proofs.Common.{List}
use Rattle.afdx_table.specs.Content.{Content}
use Rattle.afdx_table.specs.WellFormed.{IsWellFormed}
use Rattle.afdx_trace.specs.declared.shown.Selection.{Selection}
use Rattle.afdx_trace_run.specs.Inner.Running.{HasTold}
use Rattle.afdx_trace_run.proofs.running.take_all.Given as goal

abbrev pub invariant-loop-record : goal.invariant-loop-record
invariant-loop-record g l =
    (t : Content) (s : Selection) (first : List g.row.R.Denot) (start : g.row.F.Denot) (starts : List g.row.F.Denot) → IsWellFormed t
    → HasTold g.R.Read.remaining g.F.NewFile.contents t s first l.initial.readers start l.initial.arrivals starts l.initial.departures l.initial.merging l.initial.tracing
    → HasTold g.R.Read.remaining g.F.NewFile.contents t s first l.readers start l.arrivals starts l.departures l.merging l.tracing
