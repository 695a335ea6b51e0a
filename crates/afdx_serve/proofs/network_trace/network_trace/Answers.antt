use Rattle.std.proofs.Common.{◌≡◌, ◌∙◌, ℕ, List, Vec, Global, String, length, map, string_bytes, inl, sym, ap}
use Rattle.std.proofs.lemmas.List.{length-map}
use Rattle.afdx_messages.specs.declared.failure.Failure.TheVariants.{Memory}
use Rattle.afdx_serve.specs.Networks.{names_of}
use Rattle.afdx_serve.specs.NetworkTraces.{network_trace_names}
use Rattle.afdx_serve.specs.Inner.NetworkRunning.{network_in}
use Rattle.afdx_serve.proofs.Errors.{of_error}
use Rattle.afdx_serve.proofs.FileLemmas.{KeepsFiles-trans}
use Rattle.afdx_serve.proofs.NetworkTraceLemmas.{as_many_texts, is_trace, not_led_to_trace, put_or_not}
use Rattle.afdx_serve.proofs.WatchLemmas.{not_watched_from}
use Rattle.afdx_serve.proofs.network_trace.network_trace.Given.{Over}
use Rattle.afdx_serve.proofs.network_trace.network_trace.Goals.{In_ok-names}
use Rattle.afdx_serve.proofs.network_trace.network_trace.Goals as goal

pub returns-in_err-planned : goal.returns-in_err-planned
returns-in_err-planned g c =
    let fails = c.in_err-planned.ensures in
    let inputs = c.inputs_of-inputs.ensures in
    of_error _ _ _ c.in_err-planned.field-0.0 c.from_residual.ensures
    (not_led_to_trace c.in_err-planned.field-0.0 c.args.paths.now _ _ _ _ fails.same (rw (inputs.network, inputs.unchecked, inputs.input) at fails.got))

pub traced-requires : goal.traced-requires
traced-requires g c = (c.inputs_of-inputs.result, g.F.Folder.files c.args.folder.now, c.in_ok-planned.ensures.got.0)

pub returns-in_err-texts : goal.returns-in_err-texts
returns-in_err-texts g c =
    let planned = c.in_ok-planned.ensures in
    let fails = c.in_err-texts.ensures in
    let inputs = c.inputs_of-inputs.ensures in
    let given = rw (← inputs.input) at fails.led in
    let led = not_watched_from c.in_err-texts.field-0.0 c.inputs_of-inputs.result _ _ c.in_ok-planned.planned _ _ _ planned.got.0 planned.same planned.got.1 given in
    of_error _ _ _ c.in_err-texts.field-0.0 c.from_residual-in_err-texts.ensures
    (not_led_to_trace c.in_err-texts.field-0.0 c.args.paths.now _ _ _ _ (KeepsFiles-trans _ _ _ planned.same fails.same) (rw (inputs.network, inputs.unchecked, inputs.input) at led))

pub returns-in_err-names : goal.returns-in_err-names
returns-in_err-names g c =
    of_error _ _ _ Memory c.from_residual-in_err-names.ensures (inl (KeepsFiles-trans _ _ _ c.in_ok-planned.ensures.same c.in_ok-texts.ensures.same))

-- the names of the files
named : (g : Over) (c : In_ok-names g)
    → map string_bytes c.in_ok-names.names.items ≡ network_trace_names c.args.paths.now.output.now (names_of (network_in c.in_ok-planned.planned.plan).layout.switches)
named g c =
    rw c.deref.ensures.value at c.in_ok-names.ensures ∙ ap (network_trace_names c.args.paths.now.output.now) c.in_ok-planned.ensures.got.0.names

pub put_texts-requires : goal.put_texts-requires
put_texts-requires g c =
    let planned = c.in_ok-planned.ensures in
    let files = g.F.Folder.files c.args.folder.now in
    let names = rw c.deref.ensures.value at c.in_ok-names.ensures in
    let traced = c.in_ok-texts.ensures.led.0 in
    rw (c.deref-2.ensures.value, c.deref-3.ensures.value)
    (sym (length-map c.in_ok-texts.texts.items (λ (text : Vec ℕ Global). text.items))
    ∙ as_many_texts c.inputs_of-inputs.result files _ c.args.paths.now.input.now c.args.paths.now.output.now c.in_ok-planned.planned _ planned.got.0 traced
    ∙ ap (λ (ns : List (List ℕ)). length ns) (sym names) ∙ length-map c.in_ok-names.names.items (λ (s : String Global). string_bytes s))

pub returns : goal.returns
returns g c =
    let p = (goal.at.returns g c).In_ok-names in
    let planned = c.in_ok-planned.ensures in
    let ran = c.in_ok-texts.ensures in
    let inputs = c.inputs_of-inputs.ensures in
    let first = g.F.Folder.files c.args.folder.now in
    let is = is_trace c.args.paths.now c.inputs_of-inputs.result first _ c.in_ok-planned.planned _ inputs.network inputs.input inputs.unchecked planned.got.0 planned.same ran.led.0 in
    let put = rw (c.deref-2.ensures.value, c.deref-3.ensures.value) at c.put_texts.ensures in
    put_or_not c.args.paths.now (network_in c.in_ok-planned.planned.plan) (map string_bytes c.in_ok-names.names.items) _ first _ _ _ _ _ is (named g p)
    (KeepsFiles-trans _ _ _ planned.same ran.same) (ran.led.1 ∙ planned.got.1) c.put_texts.result put
