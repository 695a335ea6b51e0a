use Rattle.std.proofs.Common.{◌∙◌}
use Rattle.afdx_serve.proofs.CompareLemmas.{as_many_clocks, found_under, answered_in_span, not_opened}
use Rattle.afdx_serve.proofs.Errors.{of_error}
use Rattle.afdx_serve.proofs.compare.find.Goals as goal

pub returns-in_err-opened-clause-found : goal.returns-in_err-opened-clause-found
returns-in_err-opened-clause-found g c =
    let named = rw c.ports.ensures.ports at c.in_ok-names.ensures in
    let fails = rw (c.deref.ensures.value, named) at c.in_err-opened.ensures.opened in
    of_error _ _ _ c.in_err-opened.field-0.0 c.from_residual-in_err-opened.ensures
    (not_opened c.in_err-opened.field-0.0 _ c.args.table.now c.args.recordings.now _ _ _ fails)

pub compare-requires : goal.compare-requires
compare-requires g c =
    let named = rw c.ports.ensures.ports at c.in_ok-names.ensures in
    let opened = rw (c.deref.ensures.value, named) at c.in_ok-opened.ensures.opened.0 in
    rw c.deref_mut.ensures.value (opened.many ∙ as_many_clocks c.args.compare.now c.args.recordings.now c.args.table.now)

pub returns-in-Ok-clause-found : goal.returns-in-Ok-clause-found
returns-in-Ok-clause-found g c =
    let named = rw c.ports.ensures.ports at c.in_ok-names.ensures in
    let opened = rw (c.deref.ensures.value, named) at c.in_ok-opened.ensures.opened.0 in
    let is = rw (c.deref_mut.ensures.value, c.is_some-keeps.ensures) at c.in-Ok.ensures.ok in
    let found = found_under g.F.Opened.Read.remaining _ _ _ c.args.table.now c.args.recordings.now _ _ _ _ _ _ opened is.1 in
    answered_in_span _ _ _ _ _ _ _ _ _ is.0 found c.in_ok-opened.ensures.opened.1 c.in_span.ensures

pub compare_failure-requires : goal.compare_failure-requires
compare_failure-requires g c =
    let opened = c.in_ok-opened.ensures.opened.0 in
    let is = rw c.deref_mut.ensures.value at c.in-Err.ensures.err in
    (g.F.Folder.files c.args.folder.now, c.args.table.now, c.args.recordings.now, c.in_ok-opened.opened.items, rw c.deref-in-Err.ensures.value (rw c.deref.ensures.value at opened), is)

pub returns-clause-found : goal.returns-clause-found
returns-clause-found g c =
    let named = rw c.ports.ensures.ports at c.in_ok-names.ensures in
    let opened = rw c.deref.ensures.value at c.in_ok-opened.ensures.opened.0 in
    let is = rw c.deref_mut.ensures.value at c.in-Err.ensures.err in
    let fails = c.compare_failure.ensures.failed (g.F.Folder.files c.args.folder.now) c.args.table.now c.args.recordings.now c.in_ok-opened.opened.items (rw c.deref-in-Err.ensures.value opened) is in
    rw (c.deref-in-Err.ensures.value, named, c.in_ok-opened.ensures.opened.1) at fails
