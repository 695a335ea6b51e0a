use Rattle.std.proofs.Common.{◌≡◌, ◌<◌, List, ◌∷◌, [], ◌++◌, length, Option, sym, ap, ◌∙◌, subst}
use Rattle.std.specs.Prelude.{IfNone}
use Rattle.afdx_table.specs.declared.rows.PortRow.{PortRow}
use Rattle.afdx_table.specs.Content.{Content}
use Rattle.afdx_table.specs.WellFormed.{IsWellFormed}
use Rattle.afdx_core.specs.Rows.{row_of}
use Rattle.afdx_core.specs.State.{after_row, refusal_of}
use Rattle.afdx_merging.specs.declared.clock.Clock.{Clock}
use Rattle.afdx_merging.specs.Merge.{Arrival}
use Rattle.afdx_merging.specs.Read.{AreMerged}
use Rattle.afdx_merging.specs.Inner.Merging.{HasMerged}
use Rattle.afdx_merging.proofs.Failing.{of_error}
use Rattle.afdx_trace.specs.declared.shown.Selection.{Selection}
use Rattle.afdx_trace.specs.Inner.Telling.{Tells}
use Rattle.afdx_session.specs.declared.sources.SourceFault.{SourceFault}
use Rattle.afdx_session.specs.declared.sources.SourceFault.TheVariants.{Memory}
use Rattle.afdx_session.specs.Sources.{IsSourceFault}
use Rattle.afdx_trace_run.specs.Inner.Running.{clocks_of, port_at, source_fault, IsAmong, HasTold}
use Rattle.afdx_trace_run.proofs.Coming.{going_on, is_within, timed, may_take, took_more}
use Rattle.afdx_trace_run.proofs.Faults.{is_among, is_source_fault}
use Rattle.afdx_trace_run.proofs.running.take_all.Goals as goal

pub loop-record-init : goal.loop-record-init
loop-record-init g c = λ t s first start starts formed told. told

pub next-requires : goal.next-requires
next-requires g c =
    let q = c.requires in
    let has = c.loop-record.invariant q.0 q.1 q.2 q.3 q.4 q.5 q.7 in
    (clocks_of q.0.ports, q.2, has.came, has.merged)

pub take-requires-clause-place : goal.take-requires-clause-place
take-requires-clause-place g c =
    let rem = g.R.Read.remaining in
    let q = c.requires in
    let l = c.loop-record in
    let has = l.invariant q.0 q.1 q.2 q.3 q.4 q.5 q.7 in
    let a : Arrival = c.in-Ok-Some.arrival in
    let next = going_on rem l.readers c.next.new.readers l.merging c.next.new.self _ a c.in-Ok-Some.field-0-is c.in-Ok-Some.ensures.some in
    let on = next (clocks_of q.0.ports) q.2 has.came has.merged in
    subst (λ (d : Content). a.place < length d.ports) (sym (has.tells.table ∙ has.took.table))
    (is_within c.calls_make_runs.ensures.arrivals rem q.0 q.2 c.next.new.readers c.next.new.self has.came a has.run has.took on.0 on.1)

pub take-requires-clause-may : goal.take-requires-clause-may
take-requires-clause-may g c =
    let rem = g.R.Read.remaining in
    let q = c.requires in
    let l = c.loop-record in
    let has = l.invariant q.0 q.1 q.2 q.3 q.4 q.5 q.7 in
    let a : Arrival = c.in-Ok-Some.arrival in
    let next = going_on rem l.readers c.next.new.readers l.merging c.next.new.self _ a c.in-Ok-Some.field-0-is c.in-Ok-Some.ensures.some in
    let on = next (clocks_of q.0.ports) q.2 has.came has.merged in (
      q.1,
      has.run,
      has.tells,
      ap (λ (d : Content). refusal_of has.run (port_at d a.place) a.head.frame.stamp) has.took.table
          ∙ may_take c.calls_make_runs.ensures.arrivals rem q.0 q.2 c.next.new.readers c.next.new.self has.came a has.run has.took on.0 on.1,
    )

pub take-requires-clause-early : goal.take-requires-clause-early
take-requires-clause-early g c =
    let rem = g.R.Read.remaining in
    let q = c.requires in
    let l = c.loop-record in
    let has = l.invariant q.0 q.1 q.2 q.3 q.4 q.5 q.7 in
    let a : Arrival = c.in-Ok-Some.arrival in
    let next = going_on rem l.readers c.next.new.readers l.merging c.next.new.self _ a c.in-Ok-Some.field-0-is c.in-Ok-Some.ensures.some in
    let on = next (clocks_of q.0.ports) q.2 has.came has.merged in
    (timed c.calls_make_runs.ensures.arrivals rem q.0 q.2 c.next.new.readers c.next.new.self has.came a has.run has.took on.0 on.1).early

pub take-requires-clause-files : goal.take-requires-clause-files
take-requires-clause-files g c =
    let q = c.requires in
    (c.loop-record.invariant q.0 q.1 q.2 q.3 q.4 q.5 q.7).have.long

pub loop-record-preserved : goal.loop-record-preserved
loop-record-preserved g c = λ t s first start starts formed told.
    let rem = g.R.Read.remaining in
    let l = c.loop-record in
    let has = l.invariant t s first start starts formed told in
    let a : Arrival = c.in-Ok-Some.arrival in
    let next = going_on rem l.readers c.next.new.readers l.merging c.next.new.self _ a c.in-Ok-Some.field-0-is c.in-Ok-Some.ensures.some in
    let on = next (clocks_of t.ports) first has.came has.merged in
    let may = may_take c.calls_make_runs.ensures.arrivals rem t first c.next.new.readers c.next.new.self has.came a has.run has.took on.0 on.1 in
    let call = c.in_ok-take-in-Ok-Some.ensures in
    record {
      came = has.came ++ a ∷ [];
      run = after_row (row_of has.run.table (port_at t a.place) a.head.frame) has.run;
      merged = on.0;
      took = took_more c.calls_make_runs.ensures.arrivals rem t first c.next.new.readers c.next.new.self has.came a has.run has.took on.0 on.1;
      tells = subst (λ (d : Content). Tells s (after_row (row_of has.run.table (port_at d a.place) a.head.frame) has.run) c.take.new.tracing) has.took.table
          (call.tells s has.run has.tells (ap (λ (d : Content). refusal_of has.run (port_at d a.place) a.head.frame.stamp) has.took.table ∙ may));
      has = call.arrivals start has.has;
      have = call.departures starts has.have;
    }

pub returns-in-Ok-None-clause-ok : goal.returns-in-Ok-None-clause-ok
returns-in-Ok-None-clause-ok g c = λ t s first start starts formed told.
    let rem = g.R.Read.remaining in
    let l = c.loop-record in
    let has = l.invariant t s first start starts formed told in
    let ends = subst (λ (o : Option Arrival). IfNone o ((clocks : List Clock) (first : List g.row.R.Denot) (came : List Arrival) → HasMerged rem clocks first l.readers l.merging came
    → AreMerged rem clocks first came)) c.in-Ok-None.field-0-is c.in-Ok-None.ensures.none in
    record { came = has.came; run = has.run; all = ends (clocks_of t.ports) first has.came has.merged; took = has.took; tells = has.tells; has = has.has; have = has.have }

pub source_fault-requires : goal.source_fault-requires
source_fault-requires g c =
    let rem = g.R.Read.remaining in
    let q = c.requires in
    let has = c.loop-record.invariant q.0 q.1 q.2 q.3 q.4 q.5 q.7 in
    let ports = c.ports.ensures.ports ∙ ap (λ (d : Content). d.ports) (c.table.ensures ∙ has.tells.table ∙ has.took.table) in
    subst (λ (rows : List PortRow). IsAmong (length rows) c.in-Err.fault) (sym ports)
    (is_among rem q.2 q.0.ports c.in-Err.fault q.6 (c.in-Err.ensures.err (clocks_of q.0.ports) q.2 has.came has.merged))

pub returns-in-Err-clause-err : goal.returns-in-Err-clause-err
returns-in-Err-clause-err g c = λ t s first start starts formed long told.
    let rem = g.R.Read.remaining in
    let has = c.loop-record.invariant t s first start starts formed told in
    let ports = c.ports.ensures.ports ∙ ap (λ (d : Content). d.ports) (c.table.ensures ∙ has.tells.table ∙ has.took.table) in
    subst (IsSourceFault rem t first) (sym (c.source_fault.ensures ∙ ap (λ (rows : List PortRow). source_fault rows c.in-Err.fault) ports))
    (is_source_fault rem t first c.in-Err.fault long (c.in-Err.ensures.err (clocks_of t.ports) first has.came has.merged))

pub returns-in_err-take-in-Ok-Some-clause-err : goal.returns-in_err-take-in-Ok-Some-clause-err
returns-in_err-take-in-Ok-Some-clause-err g c =
    let rem = g.R.Read.remaining in
    of_error (λ (fault : SourceFault). (t : Content) (s : Selection) (first : List g.row.R.Denot) (start : g.row.F.Denot) (starts : List g.row.F.Denot) → IsWellFormed t → length first ≡ length t.ports
    → HasTold rem g.F.NewFile.contents t s first c.args.readers.now start c.args.arrivals.now starts c.args.departures.now c.args.merging.now c.args.tracing.now → IsSourceFault rem t first fault)
    c.from_residual.result Memory c.from_residual.ensures (λ t s first start starts formed long told. tt)
