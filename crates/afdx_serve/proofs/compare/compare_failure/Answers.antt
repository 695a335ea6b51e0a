use Rattle.std.proofs.Common.{◌≡◌, ◌∙◌, refl, get_or, ap, subst, String, Global, string_bytes}
use Rattle.afdx_serve.specs.Inner.NotGot.{FailsToReadOn}
use Rattle.afdx_serve.proofs.CompareLemmas.{unread_at, faulty_under}
use Rattle.afdx_serve.proofs.compare.compare_failure.Goals as goal

pub returns-in-Read-clause-failed : goal.returns-in-Read-clause-failed
returns-in-Read-clause-failed g c = λ files t r readers opened is.
    let str : String Global → _ = λ s. string_bytes s in
    let names = c.args.names.now in
    let within = rw c.in-Read.is at is in
    let before = g.F.Folder.failed c.args.folder.now in
    let after = g.F.Folder.failed c.unread_failure.new.folder in
    let at : c.deref.result.now ≡ str (get_or names c.in-Read.place c.index-names-place.result) = c.deref.ensures ∙ ap str c.index-names-place.is in
    let fails = subst (λ n. FailsToReadOn c.unread_failure.result n before after) at c.unread_failure.ensures.failed in
    unread_at str g.F.Opened.Read.remaining c.unread_failure.result files names t r c.in-Read.place c.index-names-place.result readers before after opened within fails

pub returns-in-Came-clause-failed : goal.returns-in-Came-clause-failed
returns-in-Came-clause-failed g c = λ files t r readers opened is.
    (faulty_under g.F.Opened.Read.remaining files _ readers t r _ c.in-Came.port c.in-Came.why opened (rw c.in-Came.is at is), refl)

pub returns-in-Left-clause-failed : goal.returns-in-Left-clause-failed
returns-in-Left-clause-failed g c = λ files t r readers opened is.
    (faulty_under g.F.Opened.Read.remaining files _ readers t r _ c.in-Left.port c.in-Left.why opened (rw c.in-Left.is at is), refl)
