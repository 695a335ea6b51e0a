use Rattle.std.proofs.Common.{◌∙◌, ℕ, List, String, Global, [], ◌∷◌, map, string_bytes, ap}
use Rattle.std.proofs.lemmas.List.{map-append}
use Rattle.afdx_serve.specs.NetworkRuns.{switch_folder}
use Rattle.afdx_serve.proofs.NetworkRunLemmas.{name_more}
use Rattle.afdx_serve.proofs.network_run.names_at.Goals as goal

pub loop-end-preserved : goal.loop-end-preserved
loop-end-preserved c =
    let str : String Global → _ = λ s. string_bytes s in
    let path = c.args.path.now in
    let names = map str c.args.names.now in
    let folder = c.deref.ensures ∙ c.in_ok-folder.ensures ∙ ap (λ (n : List ℕ). switch_folder path n) c.name_of.ensures in
    let name = rw folder at c.in_ok-capture_name.ensures in
    let grown = ap (map str) c.in_ok-push.ensures.items ∙ map-append str c.loop-end.all.items (c.in_ok-capture_name.field-0 ∷ []) in
    name_more path names c.args.ends.now c.loop-end.end-index _ _ _ _ c.loop-end-test.true grown c.loop-end.invariant name
