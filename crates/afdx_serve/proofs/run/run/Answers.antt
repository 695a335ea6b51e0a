use Rattle.std.proofs.Common.{◌∙◌, ap, sym, refl, None}
use Rattle.std.proofs.KnownBytes.{Keeps-refl}
use Rattle.std.proofs.lemmas.List.{length-map}
use Rattle.afdx_messages.specs.declared.failure.Failure.TheVariants.{Write}
use Rattle.afdx_count.specs.Tally.{Tally}
use Rattle.afdx_serve.specs.Runs.{bytes_of_captures}
use Rattle.afdx_serve.specs.Verdicts.{text_of, is_found}
use Rattle.afdx_verdict.specs.Verdict.{verdict_of}
use Rattle.afdx_serve.proofs.Errors.{of_error}
use Rattle.afdx_serve.proofs.FileLemmas.{KeepsFiles-refl, KeepsFiles-trans}
use Rattle.afdx_serve.proofs.RunLemmas.{not_gathered_run, not_all, all_put}
use Rattle.afdx_serve.proofs.run.run.Goals as goal

pub returns-in_err-files : goal.returns-in_err-files
returns-in_err-files g c =
    let got = rw c.inputs_of.ensures at c.in_ok-plan.ensures.got in
    let fails = rw got.1 at c.in_err-files.ensures.led (g.F.Folder.files c.args.folder.now) got.0.0 c.in_ok-plan.ensures.same got.0.1 got.0.2 in
    of_error _ _ _ c.in_err-files.field-0.0 c.from_residual-in_err-files.ensures
    (not_gathered_run c.args.paths.now c.args.options.now _ _ _ _ (KeepsFiles-trans _ _ _ c.in_ok-plan.ensures.same c.in_err-files.ensures.same) _ _ (Keeps-refl _) c.in_err-files.field-0.0 fails)

pub returns-in_err-put_all : goal.returns-in_err-put_all
returns-in_err-put_all g c =
    let got = rw c.inputs_of.ensures at c.in_ok-plan.ensures.got in
    let is = c.in_ok-files.ensures.led (g.F.Folder.files c.args.folder.now) got.0.0 c.in_ok-plan.ensures.same got.0.1 got.0.2 in
    let l = rw c.deref.ensures.value at is.0.1 in
    let puts = rw c.deref-2.ensures.value at c.in_err-put_all.ensures in
    let keeps = KeepsFiles-trans _ _ _ c.in_ok-plan.ensures.same c.in_ok-files.ensures.same in
    let fails = rw l.named at puts (g.F.Folder.files c.args.folder.now) (bytes_of_captures l.results.captures) keeps (l.many ∙ length-map _ _) l.have in
    of_error _ _ _ c.in_err-put_all.field-0.0 c.from_residual-in_err-put_all.ensures
    (not_all c.args.paths.now l.results _ _ _ _ _ _ l.leads (KeepsFiles-refl _) (is.1 ∙ got.1) c.args.options.now c.in_err-put_all.field-0.0 _ _ (Keeps-refl _) fails)

pub returns-in_err-write_bytes : goal.returns-in_err-write_bytes
returns-in_err-write_bytes g c =
    let got = rw c.inputs_of.ensures at c.in_ok-plan.ensures.got in
    let is = c.in_ok-files.ensures.led (g.F.Folder.files c.args.folder.now) got.0.0 c.in_ok-plan.ensures.same got.0.1 got.0.2 in
    let l = rw c.deref.ensures.value at is.0.1 in
    let puts = rw c.deref-2.ensures.value at c.in_ok-put_all.ensures in
    let keeps = KeepsFiles-trans _ _ _ c.in_ok-plan.ensures.same c.in_ok-files.ensures.same in
    let put = rw l.named at puts (g.F.Folder.files c.args.folder.now) (bytes_of_captures l.results.captures) keeps (l.many ∙ length-map _ _) l.have in
    let written = rw (c.as_bytes.ensures.value ∙ is.0.2.text ∙ ap (text_of c.args.options.now) l.counted) at c.in_err-write_bytes.ensures.prefix in
    of_error _ _ _ Write c.from_residual-in_err-write_bytes.ensures
    (_, (_, (l.results, all_put c.args.paths.now l.results _ _ _ _ _ _ l.leads (KeepsFiles-refl _) (is.1 ∙ got.1) put.0 put.1 None None, refl, refl), written))

pub returns-then-report : goal.returns-then-report
returns-then-report g c =
    let got = rw c.inputs_of.ensures at c.in_ok-plan.ensures.got in
    let is = c.in_ok-files.ensures.led (g.F.Folder.files c.args.folder.now) got.0.0 c.in_ok-plan.ensures.same got.0.1 got.0.2 in
    let l = rw c.deref.ensures.value at is.0.1 in
    let puts = rw c.deref-2.ensures.value at c.in_ok-put_all.ensures in
    let keeps = KeepsFiles-trans _ _ _ c.in_ok-plan.ensures.same c.in_ok-files.ensures.same in
    let put = rw l.named at puts (g.F.Folder.files c.args.folder.now) (bytes_of_captures l.results.captures) keeps (l.many ∙ length-map _ _) l.have in
    let written = rw (c.as_bytes.ensures.value ∙ is.0.2.text ∙ ap (text_of c.args.options.now) l.counted) at c.in_ok-write_bytes.ensures.all in
    let found = sym (is.0.2.found ∙ ap (λ (counts : Tally). is_found c.args.options.now.fail_on (verdict_of counts)) l.counted) ∙ c.if-report.true in
    (_, (l.results, all_put c.args.paths.now l.results _ _ _ _ _ _ l.leads (KeepsFiles-refl _) (is.1 ∙ got.1) put.0 put.1 None None, refl, found), written)

pub returns : goal.returns
returns g c =
    let got = rw c.inputs_of.ensures at c.in_ok-plan.ensures.got in
    let is = c.in_ok-files.ensures.led (g.F.Folder.files c.args.folder.now) got.0.0 c.in_ok-plan.ensures.same got.0.1 got.0.2 in
    let l = rw c.deref.ensures.value at is.0.1 in
    let puts = rw c.deref-2.ensures.value at c.in_ok-put_all.ensures in
    let keeps = KeepsFiles-trans _ _ _ c.in_ok-plan.ensures.same c.in_ok-files.ensures.same in
    let put = rw l.named at puts (g.F.Folder.files c.args.folder.now) (bytes_of_captures l.results.captures) keeps (l.many ∙ length-map _ _) l.have in
    let written = rw (c.as_bytes.ensures.value ∙ is.0.2.text ∙ ap (text_of c.args.options.now) l.counted) at c.in_ok-write_bytes.ensures.all in
    let found = sym (is.0.2.found ∙ ap (λ (counts : Tally). is_found c.args.options.now.fail_on (verdict_of counts)) l.counted) ∙ c.if-report.false in
    (_, (l.results, all_put c.args.paths.now l.results _ _ _ _ _ _ l.leads (KeepsFiles-refl _) (is.1 ∙ got.1) put.0 put.1 None None, refl, found), written)
