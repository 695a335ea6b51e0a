use Rattle.std.proofs.Common.{◌≡◌, ◌∙◌, refl, get_or, ap, subst, String, Global, string_bytes}
use Rattle.afdx_network_report.specs.Lines.{Names}
use Rattle.afdx_serve.specs.Inner.NotGot.{FailsToReadOn}
use Rattle.afdx_network.specs.declared.fault.NetworkRunFault.TheVariants as run
use Rattle.afdx_serve.specs.Inner.NetworkRunning.{IsGivenFailure}
use Rattle.afdx_serve.proofs.NetworkRunLemmas.{unread_given, fault_given}
use Rattle.afdx_serve.proofs.network_run.run_failure.Goals as goal

pub returns-in-Memory-clause-failed : goal.returns-in-Memory-clause-failed
returns-in-Memory-clause-failed g c = λ files path net all named tables opened is. tt

pub returns-in-Read-clause-failed : goal.returns-in-Read-clause-failed
returns-in-Read-clause-failed g c = λ files path net all named tables opened is.
    let str : String Global → _ = λ s. string_bytes s in
    let names = c.args.opened.now in
    let within = rw c.in-Read.is at is in
    let before = g.F.Folder.failed c.args.folder.now in
    let after = g.F.Folder.failed c.unread_failure.new.folder in
    let at : c.deref.result.now ≡ str (get_or names c.in-Read.place c.index-opened-place.result) = c.deref.ensures ∙ ap str c.index-opened-place.is in
    let fails = subst (λ n. FailsToReadOn c.unread_failure.result n before after) at c.unread_failure.ensures.failed in
    unread_given str g.F.Opened.Read.remaining c.unread_failure.result files path net names c.in-Read.place c.index-opened-place.result all before after tables opened within fails

pub returns-in-Capture-clause-failed : goal.returns-in-Capture-clause-failed
returns-in-Capture-clause-failed g c = λ files path net all named tables opened is.
    let has = rw c.in-Capture.is at is in
    let why = run.Capture c.in-Capture.switch c.in-Capture.port c.in-Capture.why in
    fault_given g.F.Opened.Read.remaining c.capture_failure.result files path net _ all why _ _ tables opened has
    (subst (λ (ns : Names). IsGivenFailure ns c.capture_failure.result why) named c.capture_failure.ensures) refl

pub returns-in-Line-clause-failed : goal.returns-in-Line-clause-failed
returns-in-Line-clause-failed g c = λ files path net all named tables opened is.
    let has = rw c.in-Line.is at is in
    let why = run.Line c.in-Line.switch c.in-Line.port c.in-Line.number in
    fault_given g.F.Opened.Read.remaining c.line_failure.result files path net _ all why _ _ tables opened has
    (subst (λ (ns : Names). IsGivenFailure ns c.line_failure.result why) named c.line_failure.ensures) refl
