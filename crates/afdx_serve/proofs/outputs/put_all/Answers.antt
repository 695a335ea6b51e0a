use Rattle.std.proofs.Common.{◌∙◌, String, Global, map, string_bytes, sym, ap}
use Rattle.std.proofs.lemmas.List.{length-map}
use Rattle.afdx_folder.specs.Files.{settled_after}
use Rattle.afdx_serve.proofs.CaptureLemmas.{none_put, moved}
use Rattle.afdx_serve.proofs.Errors.{of_error}
use Rattle.afdx_serve.proofs.FileLemmas.{KeepsFiles-trans}
use Rattle.afdx_serve.proofs.outputs.put_all.Goals as goal

pub returns-in_err-settled : goal.returns-in_err-settled
returns-in_err-settled g c = λ first all keeps many has.
    of_error _ _ _ c.in_err-settled.field-0.0 c.from_residual.ensures
    (none_put c.in_err-settled.field-0.0 _ all first _ _ _ (KeepsFiles-trans _ _ _ keeps c.in_err-settled.ensures.same) (c.in_err-settled.ensures.settled first all has))

pub returns : goal.returns
returns g c = λ first all keeps many has.
    let str : String Global → _ = λ s. string_bytes s in
    let names = c.args.names.now in
    let settled = c.in_ok-settled.ensures.settled first all has in
    let taken = settled.1 ∙ ap (λ n. settled_after n (g.F.Folder.failed c.args.folder.now)) (sym (length-map names str)) in
    moved (map str names) all first _ _ _ _ taken c.move_all.result (c.move_all.ensures first all (KeepsFiles-trans _ _ _ keeps c.in_ok-settled.ensures.same) many settled.0)
