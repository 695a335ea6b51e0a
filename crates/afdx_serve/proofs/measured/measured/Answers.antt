use Rattle.std.proofs.Common.{◌∙◌}
use Rattle.afdx_session.specs.Outcome.{table_in}
use Rattle.afdx_serve.proofs.Errors.{of_error}
use Rattle.afdx_serve.proofs.LeadLemmas.{as_many_readers, has_plan, not_all_opened, not_led_from}
use Rattle.afdx_serve.proofs.RunLemmas.{not_gathered}
use Rattle.afdx_serve.proofs.MeasureLemmas.{is_measured}
use Rattle.afdx_serve.proofs.measured.measured.Goals as goal

pub returns-in_err-names-clause-led : goal.returns-in_err-names-clause-led
returns-in_err-names-clause-led g c =
    let files = g.F.Folder.files c.args.folder.now in
    let inputs = c.args.inputs.now in
    let plan = c.in_ok-plan.plan in
    let got = c.in_ok-plan.ensures.got in
    let fails = rw c.table.ensures.table at c.in_err-names.ensures.opened in
    of_error _ _ _ c.in_err-names.field-0.0 c.from_residual-in_err-names.ensures
    (not_gathered inputs files _ (table_in plan) _ _ _ (has_plan inputs files got.0.0 plan got.0.1 got.0.2) c.in_ok-plan.ensures.same got.1 c.in_err-names.field-0.0
    (not_all_opened c.in_err-names.field-0.0 _ _ _ _ _ fails))

pub measured_from-requires : goal.measured_from-requires
measured_from-requires g c =
    let opened = rw c.table.ensures.table at c.in_ok-names.ensures.opened.0 in
    rw c.deref_mut.ensures.value (as_many_readers g.F.Opened.Read.remaining _ c.args.inputs.now.input.now (table_in c.in_ok-plan.plan) _ _ opened)

pub returns-in-Ok-clause-led : goal.returns-in-Ok-clause-led
returns-in-Ok-clause-led g c =
    let files = g.F.Folder.files c.args.folder.now in
    let plan = c.in_ok-plan.plan in
    let got = c.in_ok-plan.ensures.got in
    let opened = rw c.table.ensures.table at c.in_ok-names.ensures.opened.0 in
    let is = c.in-Ok.ensures.ok in
    let read = rw c.deref_mut.ensures.value at is.1 in (
      is_measured c.accepted_tables_stay_within_the_load.ensures c.tables_are_well_formed.ensures g.F.Opened.Read.remaining c.args.inputs.now files _ got.0.0 plan _ _ is.0 _ _
          got.0.1 got.0.2 c.in_ok-plan.ensures.same opened read is.2,
      c.in_ok-names.ensures.opened.1 ∙ got.1,
    )

pub source_failure-requires : goal.source_failure-requires
source_failure-requires g c =
    let opened = rw c.table.ensures.table at c.in_ok-names.ensures.opened.0 in
    let is = rw c.deref_mut.ensures.value at c.in-Err.ensures.err in
    (g.F.Folder.files c.get_plan.new.folder, c.args.inputs.now.input.now, table_in c.in_ok-plan.plan, c.in_ok-names.opened.items, rw c.deref.ensures.value opened, is)

pub returns-clause-led : goal.returns-clause-led
returns-clause-led g c =
    let files = g.F.Folder.files c.args.folder.now in
    let inputs = c.args.inputs.now in
    let plan = c.in_ok-plan.plan in
    let got = c.in_ok-plan.ensures.got in
    let log = g.F.Folder.failed c.args.folder.now in
    let after = g.F.Folder.failed c.source_failure.new.folder in
    let opened = rw c.table.ensures.table at c.in_ok-names.ensures.opened.0 in
    let is = rw c.deref_mut.ensures.value at c.in-Err.ensures.err in
    let fails = c.source_failure.ensures.failed (g.F.Folder.files c.get_plan.new.folder) inputs.input.now (table_in plan) c.in_ok-names.opened.items (rw c.deref.ensures.value opened) is in
    not_led_from inputs files _ got.0.0 plan log _ after got.0.1 got.0.2 c.in_ok-plan.ensures.same (c.in_ok-names.ensures.opened.1 ∙ got.1) c.source_failure.result fails
