use Rattle.std.proofs.Common.{[], length, sym, ap, ◌∙◌, subst}
use Rattle.afdx_table.specs.Content.{Content}
use Rattle.afdx_table.specs.WellFormed.{IsWellFormed}
use Rattle.afdx_merging.specs.Inner.Merging.{HasMerged}
use Rattle.afdx_merging.proofs.Failing.{of_error}
use Rattle.afdx_core.specs.State.{fresh_run}
use Rattle.afdx_trace.specs.Inner.Telling.{Tells}
use Rattle.afdx_session.specs.Outcome.{table_in, is_cleared}
use Rattle.afdx_session.specs.Sources.{IsSourceFault}
use Rattle.afdx_trace_run.specs.Inner.Running.{clocks_of, HasTold}
use Rattle.afdx_trace_run.proofs.Coming.{first_told, all_traced}
use Rattle.afdx_trace_run.proofs.running.trace_from.Given.{Over}
use Rattle.afdx_trace_run.proofs.running.trace_from.Goals as goal
use Rattle.afdx_trace_run.proofs.running.trace_from.Goals.{In_ok-tracing}

pub opened-requires : goal.opened-requires
opened-requires g c = c.requires.readers ∙ ap length (sym (c.ports.ensures.ports ∙ ap (λ (t : Content). t.ports) c.table_of-table.ensures.table))

-- nothing was taken and nothing was told
begun : (g : Over) (c : In_ok-tracing g) → IsWellFormed (table_in c.args.plan)
    × HasTold g.R.Read.remaining g.F.NewFile.contents (table_in c.args.plan) c.args.selection.now c.args.readers.now c.opened.new.readers c.args.arrivals.now c.args.arrivals.now
    c.args.departures.now c.args.departures.now c.in_ok-merging.merging c.in_ok-tracing.tracing
begun g c =
    let t = table_in c.args.plan in
    let rem = g.R.Read.remaining in
    let ports = c.ports.ensures.ports ∙ ap (λ (u : Content). u.ports) c.table_of-table.ensures.table in (
      subst IsWellFormed c.table_of-table.ensures.table c.ports.ensures.well_formed,
      first_told c.calls_make_runs.ensures.begin rem g.F.NewFile.contents t c.args.selection.now c.args.readers.now c.opened.new.readers c.args.arrivals.now c.args.departures.now
          c.in_ok-merging.merging c.in_ok-tracing.tracing
          (subst (λ (u : Content). Tells c.args.selection.now (fresh_run u) c.in_ok-tracing.tracing) c.table_of-table.ensures.table c.in_ok-tracing.ensures.tells) c.in_ok-tracing.ensures.fresh
          c.requires.files (subst (λ ps. HasMerged rem (clocks_of ps) c.args.readers.now c.opened.new.readers c.in_ok-merging.merging []) ports c.in_ok-merging.ensures.ok),
    )

pub take_all-requires : goal.take_all-requires
take_all-requires g c =
    let b = begun g (goal.at.take_all-requires g c).In_ok-tracing in
    (table_in c.args.plan, c.args.selection.now, c.args.readers.now, c.args.arrivals.now, c.args.departures.now, b.0, c.requires.readers, b.1)

-- as many files are there as ports
pub end-requires-clause-files : goal.end-requires-clause-files
end-requires-clause-files g c =
    let b = begun g (goal.at.end-requires-clause-files g c).In_ok-tracing in
    (c.in_ok-take_all.ensures.ok (table_in c.args.plan) c.args.selection.now c.args.readers.now c.args.arrivals.now c.args.departures.now b.0 b.1).have.long

pub end-requires-clause-tells : goal.end-requires-clause-tells
end-requires-clause-tells g c =
    let b = begun g (goal.at.end-requires-clause-tells g c).In_ok-tracing in
    let took = c.in_ok-take_all.ensures.ok (table_in c.args.plan) c.args.selection.now c.args.readers.now c.args.arrivals.now c.args.departures.now b.0 b.1 in
    (c.args.selection.now, took.run, took.tells)

pub returns-clause-ok : goal.returns-clause-ok
returns-clause-ok g c =
    let t = table_in c.args.plan in
    let s = c.args.selection.now in
    let b = begun g (goal.at.returns-clause-ok g c).In_ok-tracing in
    let took = c.in_ok-take_all.ensures.ok t s c.args.readers.now c.args.arrivals.now c.args.departures.now b.0 b.1 in
    all_traced c.merged_is_the_only_one.ensures c.calls_make_runs.ensures.finish c.accepted_tables_isolate.ensures g.R.Read.remaining g.F.NewFile.contents t b.0 (is_cleared c.args.plan)
    (λ cleared. c.table_of-table.ensures.accepted cleared) s c.args.readers.now c.args.arrivals.now c.take_all.new.arrivals c.end.new.arrivals c.args.departures.now c.take_all.new.departures
    c.end.new.departures c.take_all.new.tracing took (c.in_ok-end.ensures s took.run took.tells)

pub returns-in_err-merging-clause-err : goal.returns-in_err-merging-clause-err
returns-in_err-merging-clause-err g c =
    let t = table_in c.args.plan in
    of_error (IsSourceFault g.R.Read.remaining t c.args.readers.now) c.from_residual.result c.in_err-merging.field-0.0 c.from_residual.ensures
    (c.in_err-merging.ensures.err t (sym (c.ports.ensures.ports ∙ ap (λ (u : Content). u.ports) c.table_of-table.ensures.table)))

pub returns-in_err-take_all-clause-err : goal.returns-in_err-take_all-clause-err
returns-in_err-take_all-clause-err g c =
    let t = table_in c.args.plan in
    let b = begun g (goal.at.returns-in_err-take_all-clause-err g c).In_ok-tracing in
    of_error (IsSourceFault g.R.Read.remaining t c.args.readers.now) c.from_residual-in_err-take_all.result c.in_err-take_all.field-0.0 c.from_residual-in_err-take_all.ensures
    (c.in_err-take_all.ensures.err t c.args.selection.now c.args.readers.now c.args.arrivals.now c.args.departures.now b.0 c.requires.readers b.1)
