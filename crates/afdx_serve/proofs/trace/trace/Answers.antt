use Rattle.std.proofs.Common.{◌≡◌, ◌∙◌, String, Global, length, string_bytes, refl, sym, ap}
use Rattle.std.proofs.lemmas.List.{length-map}
use Rattle.afdx_serve.specs.Traces.{trace_texts}
use Rattle.afdx_serve.proofs.Errors.{of_error}
use Rattle.afdx_serve.proofs.FileLemmas.{KeepsFiles-refl, KeepsFiles-trans}
use Rattle.afdx_serve.proofs.RunLemmas.{not_gathered_trace, traced_all}
use Rattle.afdx_serve.proofs.trace.trace.Goals as goal

pub returns-in_err-files : goal.returns-in_err-files
returns-in_err-files g c =
    let got = rw c.inputs_of.ensures at c.in_ok-plan.ensures.got in
    let fails = rw got.1 at c.in_err-files.ensures.led (g.F.Folder.files c.args.folder.now) got.0.0 c.in_ok-plan.ensures.same got.0.1 got.0.2 in
    of_error _ _ _ c.in_err-files.field-0.0 c.from_residual-in_err-files.ensures
    (not_gathered_trace c.args.paths.now c.args.options.now _ _ _ _ (KeepsFiles-trans _ _ _ c.in_ok-plan.ensures.same c.in_err-files.ensures.same) c.in_err-files.field-0.0 fails)

pub returns : goal.returns
returns g c =
    let str : String Global → _ = λ s. string_bytes s in
    let files = g.F.Folder.files c.args.folder.now in
    let got = rw c.inputs_of.ensures at c.in_ok-plan.ensures.got in
    let is = c.in_ok-files.ensures.led files got.0.0 c.in_ok-plan.ensures.same got.0.1 got.0.2 in
    let texts = trace_texts c.selection_of.result is.0.0.run in
    let keeps = KeepsFiles-trans _ _ _ c.in_ok-plan.ensures.same c.in_ok-files.ensures.same in
    let many : length c.in_ok-names.names.items ≡ 2 = sym (length-map c.in_ok-names.names.items str) ∙ ap length c.in_ok-names.ensures in
    let puts = rw (c.deref.ensures.value, c.in_ok-names.ensures) at c.put_all.ensures in
    traced_all c.args.paths.now c.args.options.now texts files files _ _ _ _ (is.0.0, is.0.1, (c.selection_of.result, c.selection_of.ensures.links, c.selection_of.ensures.relative, refl))
    (KeepsFiles-refl _) (is.1 ∙ got.1) c.put_all.result (puts files texts keeps (sym many) is.0.2)
