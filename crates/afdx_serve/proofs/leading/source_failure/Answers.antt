use Rattle.std.proofs.Common.{◌≡◌, ◌∙◌, refl, get_or, inl, ap, subst, String, Global, string_bytes, arith}
use Rattle.afdx_serve.specs.Inner.NotGot.{FailsToReadOn}
use Rattle.afdx_serve.proofs.LeadLemmas.{unread_capture, capture_fault, as_many_names}
use Rattle.afdx_serve.proofs.leading.source_failure.Goals as goal

pub returns-in-Memory-clause-failed : goal.returns-in-Memory-clause-failed
returns-in-Memory-clause-failed g c = λ files path t readers opened is. inl tt

pub returns-in-Read-clause-failed : goal.returns-in-Read-clause-failed
returns-in-Read-clause-failed g c = λ files path t readers opened is.
    let str : String Global → _ = λ s. string_bytes s in
    let names = c.args.names.now in
    let within = rw c.in-Read.is at is in
    let before = g.F.Folder.failed c.args.folder.now in
    let after = g.F.Folder.failed c.unread_failure.new.folder in
    let at : c.deref.result.now ≡ str (get_or names c.in-Read.place c.index-names-place.result) = c.deref.ensures ∙ ap str c.index-names-place.is in
    let fails = subst (λ n. FailsToReadOn c.unread_failure.result n before after) at c.unread_failure.ensures.failed in
    let many = as_many_names str g.F.Opened.Read.remaining files path t names readers opened in
    inl (unread_capture str g.F.Opened.Read.remaining c.unread_failure.result files path t names c.in-Read.place c.index-names-place.result readers before before after opened.named opened.opened
    (omega (arith, many, within)) refl fails)

pub returns-in-Capture-clause-failed : goal.returns-in-Capture-clause-failed
returns-in-Capture-clause-failed g c = λ files path t readers opened is.
    let has = rw c.in-Capture.is at is in
    capture_fault g.F.Opened.Read.remaining files path t _ readers c.in-Capture.port c.in-Capture.why _ _ opened.named opened.opened has refl
