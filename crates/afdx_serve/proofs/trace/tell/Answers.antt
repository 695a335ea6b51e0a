use Rattle.std.proofs.Common.{inl, subst}
use Rattle.afdx_session.specs.Outcome.{table_in, is_cleared}
use Rattle.afdx_serve.specs.Inner.Leading.{FailsToLeadFrom}
use Rattle.afdx_serve.proofs.Errors.{of_error}
use Rattle.afdx_serve.proofs.FileLemmas.{KeepsFiles-trans}
use Rattle.afdx_serve.proofs.LeadLemmas.{as_many_readers, not_all_opened}
use Rattle.afdx_serve.proofs.TellingLemmas.{is_told}
use Rattle.afdx_serve.proofs.trace.tell.Goals as goal

pub returns-in_err-names-clause-led : goal.returns-in_err-names-clause-led
returns-in_err-names-clause-led g c =
    let fails = rw c.table.ensures.table at c.in_err-names.ensures.opened in
    of_error _ _ _ c.in_err-names.field-0.0 c.from_residual.ensures (inl (not_all_opened c.in_err-names.field-0.0 _ _ _ _ _ fails))

pub trace_from-requires-clause-readers : goal.trace_from-requires-clause-readers
trace_from-requires-clause-readers g c =
    let opened = rw c.table.ensures.table at c.in_ok-names.ensures.opened.0 in
    rw c.deref_mut.ensures.value (as_many_readers g.F.Opened.Read.remaining _ c.args.path.now (table_in c.args.plan) _ _ opened)

pub returns-in-Ok-clause-led : goal.returns-in-Ok-clause-led
returns-in-Ok-clause-led g c =
    let plan = c.args.plan in
    let opened = rw c.table.ensures.table at c.in_ok-names.ensures.opened.0 in
    let traced = rw c.deref_mut.ensures.value at c.in-Ok.ensures.ok in
    let heading = rw (c.as_bytes.ensures.value, c.departures_heading.ensures) at c.in_ok-append-in-Ok.ensures in
    let split = c.split_at_mut-both in (
      is_told g.F.Opened.Read.remaining g.F.New.NewFile.contents (g.F.Folder.files c.args.folder.now) c.args.path.now (is_cleared plan) (table_in plan) c.args.selection.now _ _ opened
          c.trace_from.new.arrivals c.append.new.self split.result.1.now c.trace_from.new.departures c.args.files.now split.result.0.now c.index-both-0.result c.index-both-1.result
          split.ensures.value split.ensures.front_len traced heading,
      c.in_ok-names.ensures.opened.1,
    )

pub source_failure-requires : goal.source_failure-requires
source_failure-requires g c =
    let opened = rw c.table.ensures.table at c.in_ok-names.ensures.opened.0 in
    let is = rw c.deref_mut.ensures.value at c.in-Err.ensures.err in
    (g.F.Folder.files c.args.folder.now, c.args.path.now, table_in c.args.plan, c.in_ok-names.opened.items, rw c.deref.ensures.value opened, is)

pub returns-clause-led : goal.returns-clause-led
returns-clause-led g c =
    let opened = rw c.table.ensures.table at c.in_ok-names.ensures.opened.0 in
    let is = rw c.deref_mut.ensures.value at c.in-Err.ensures.err in
    let files = g.F.Folder.files c.args.folder.now in
    let t = table_in c.args.plan in
    subst (λ before. FailsToLeadFrom c.source_failure.result files c.args.path.now t before (g.F.Folder.failed c.source_failure.new.folder)) c.in_ok-names.ensures.opened.1
    (c.source_failure.ensures.failed files c.args.path.now t c.in_ok-names.opened.items (rw c.deref.ensures.value opened) is)

pub returns-clause-same : goal.returns-clause-same
returns-clause-same g c = KeepsFiles-trans _ _ _ c.in_ok-names.ensures.same c.source_failure.ensures.same
