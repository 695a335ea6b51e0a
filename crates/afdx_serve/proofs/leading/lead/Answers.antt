use Rattle.std.proofs.Common.{◌∙◌, map, sym, subst, string_bytes}
use Rattle.afdx_serve.specs.Runs.{inputs_of, FailsToGather}
use Rattle.afdx_serve.proofs.FileLemmas.{KeepsFiles-trans}
use Rattle.afdx_serve.proofs.LeadLemmas.{folder_led, not_led_from}
use Rattle.afdx_serve.proofs.leading.lead.Goals as goal

pub returns-in-Ok-clause-led : goal.returns-in-Ok-clause-led
returns-in-Ok-clause-led g c = λ first text keeps shows is.
    let led = c.in-Ok.ensures.led in
    let long = sym c.deref_mut.ensures.len ∙ sym led.0.3.appended.0 in
    let written = rw c.deref_mut.ensures.value at led.0.3 in (
      (
        led.0.0,
        folder_led c.tables_are_well_formed.ensures c.accepted_runs_isolate.ensures g.F.New.NewFile.contents c.args.paths.now first _ _ text c.args.plan led.0.1 c.in_ok-files.files.items
            c.report_of_folder.new.files c.in_ok-files.files.len led.0.0 (map string_bytes c.args.names.now) shows is c.requires.names keeps c.in_ok-files.ensures.same
            c.in_ok-files.ensures.empty long led.0.2 written,
        led.0.4,
      ),
      led.1 ∙ c.in_ok-files.ensures.failed,
    )

pub returns-in-Err-clause-led : goal.returns-in-Err-clause-led
returns-in-Err-clause-led g c = λ first text keeps shows is.
    let inputs = inputs_of c.args.paths.now in
    let log = g.F.Folder.failed c.args.folder.now in
    subst (λ now. FailsToGather c.in-Err.failure inputs first log now) (sym c.abandon_all.ensures.failed)
    (not_led_from inputs first (g.F.Folder.files c.begin_all.new.folder) text c.args.plan log (g.F.Folder.failed c.begin_all.new.folder) (g.F.Folder.failed c.report_of_folder.new.folder) shows is
    (KeepsFiles-trans first _ _ keeps c.in_ok-files.ensures.same) c.in_ok-files.ensures.failed c.in-Err.failure c.in-Err.ensures.led)

pub returns-in-Err-clause-same : goal.returns-in-Err-clause-same
returns-in-Err-clause-same g c = KeepsFiles-trans _ _ _ (KeepsFiles-trans _ _ _ c.in_ok-files.ensures.same c.in-Err.ensures.same) c.abandon_all.ensures.same
