use Rattle.std.proofs.Common.{◌∙◌, sym, subst}
use Rattle.afdx_serve.specs.NetworkRuns.{FailsToGetGiven}
use Rattle.afdx_serve.specs.Inner.NetworkRunning.{network_in}
use Rattle.afdx_serve.proofs.FileLemmas.{KeepsFiles-trans}
use Rattle.afdx_serve.proofs.NetworkRunLemmas.{leads_before, written_bytes, not_given_before}
use Rattle.afdx_serve.proofs.network_run.lead.Goals as goal

pub returns-in-Ok-clause-led : goal.returns-in-Ok-clause-led
returns-in-Ok-clause-led g c =
    let led = c.in-Ok.ensures.led in
    let files = g.F.Folder.files c.args.folder.now in
    let long = sym c.deref_mut.ensures.len ∙ sym led.0.2.0 in
    let appended = rw c.deref_mut.ensures.value at led.0.2 in (
      (
        led.0.0,
        leads_before files _ c.args.path.now c.args.plan.now led.0.0 c.in_ok-files.ensures.same led.0.1,
        written_bytes g.F.New.NewFile.contents files c.in_ok-files.files.items c.reports_of_folder.new.files c.in_ok-files.files.len led.0.0 c.in_ok-files.ensures.empty long appended,
        led.0.3,
      ),
      led.1 ∙ c.in_ok-files.ensures.failed,
    )

pub returns-in-Err-clause-led : goal.returns-in-Err-clause-led
returns-in-Err-clause-led g c =
    let f = c.in-Err.failure in
    let net = network_in c.args.plan.now in
    let path = c.args.path.now in
    let begun = g.F.Folder.files c.begin_all.new.folder in
    let now = subst (λ log. FailsToGetGiven f begun path net (g.F.Folder.failed c.begin_all.new.folder) log) (sym c.abandon_all.ensures.failed) c.in-Err.ensures.led in
    let first = subst (λ log. FailsToGetGiven f begun path net log (g.F.Folder.failed c.abandon_all.new.folder)) c.in_ok-files.ensures.failed now in
    not_given_before f (g.F.Folder.files c.args.folder.now) begun path net (g.F.Folder.failed c.args.folder.now) (g.F.Folder.failed c.abandon_all.new.folder) c.in_ok-files.ensures.same first

pub returns-in-Err-clause-same : goal.returns-in-Err-clause-same
returns-in-Err-clause-same g c = KeepsFiles-trans _ _ _ (KeepsFiles-trans _ _ _ c.in_ok-files.ensures.same c.in-Err.ensures.same) c.abandon_all.ensures.same
