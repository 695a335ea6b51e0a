use Rattle.std.proofs.Common.{rules, ◌≡◌, ◌∙◌, ap}
use Rattle.std.specs.Path.{path_with_file_name}
use Rattle.afdx_wiring.specs.File.{Switch}
use Rattle.afdx_serve.specs.Networks.{bytes_in}
use Rattle.afdx_serve.proofs.GetLemmas.{gets_tables, not_got_text, one_more_text}
use Rattle.afdx_serve.proofs.Errors.{of_error}
use Rattle.afdx_serve.proofs.network_get.get_texts.Goals as goal

pub returns-in_err-text-clause-got : goal.returns-in_err-text-clause-got
returns-in_err-text-clause-got g c =
    let path_is : c.deref.result.now ≡ c.switch-item.result.path = search rules in
    let named = c.deref-in-loop-switch.ensures ∙ c.in_ok-name.ensures ∙ ap (path_with_file_name c.args.path.now) (path_is ∙ ap (λ (s : Switch). s.path) c.switch-item.is) in
    of_error _ _ _ c.in_err-text.field-0.0 c.from_residual-in_err-text.ensures
    (not_got_text c.in_err-text.field-0.0 _ c.args.path.now _ c.args.switches.now _ _ _ c.loop-switch.invariant.failed c.in_err-text.ensures.got
    (gets_tables _ c.args.path.now _ c.args.switches.now c.loop-switch.switch-index _ (bytes_in c.loop-switch.texts.items) c.loop-switch-test.true named c.loop-switch.invariant.got))

pub loop-switch-preserved : goal.loop-switch-preserved
loop-switch-preserved g c =
    let path_is : c.deref.result.now ≡ c.switch-item.result.path = search rules in
    let named = c.deref-in-loop-switch.ensures ∙ c.in_ok-name.ensures ∙ ap (path_with_file_name c.args.path.now) (path_is ∙ ap (λ (s : Switch). s.path) c.switch-item.is) in
    let old = c.loop-switch.invariant in
    let more = one_more_text _ _ _ c.args.path.now _ c.args.switches.now c.loop-switch.switch-index _ _ _ c.in_ok-text.text c.in_ok-push.ensures.items c.loop-switch-test.true
    old.same c.in_ok-text.ensures.same old.got old.len named c.in_ok-text.ensures.got.0 in
    record { got = more.0; len = more.1; same = more.2; failed = c.in_ok-text.ensures.got.1 ∙ old.failed }
