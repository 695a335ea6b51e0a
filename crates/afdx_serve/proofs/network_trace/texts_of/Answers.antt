use Rattle.std.proofs.Common.{◌≡◌, ◌∙◌, ◌++◌, ◌<◌, ◌≤◌, ℕ, [], List, Vec, Global, Option, length, map, take, get_or, ap, sym, arith}
use Rattle.std.proofs.lemmas.List.{get_or-map, length-map, take_all}
use Rattle.afdx_core.specs.State.{State}
use Rattle.afdx_serve.specs.NetworkTraces.{switch_texts, network_trace_texts}
use Rattle.afdx_serve.proofs.NetworkTraceLemmas.{texts_more}
use Rattle.afdx_serve.proofs.network_trace.texts_of.Goals as goal

abbrev numbers : Vec (Option ℕ) Global → List (Option ℕ)
numbers own = own.items

pub loop-switch-preserved : goal.loop-switch-preserved
loop-switch-preserved c =
    let i = c.loop-switch.switch in
    let lt = c.loop-switch-test.true in
    let same = c.requires in
    let f = c.index-firsts-switch.result in
    let within : i < length c.args.firsts.now = omega (arith, lt, same) in
    let here : c.deref.result.now ≡ get_or (map numbers c.args.firsts.now) i [] =
    c.deref.ensures.value ∙ ap numbers c.index-firsts-switch.is ∙ sym (get_or-map numbers c.args.firsts.now i f [] within) in
    let own = get_or (map numbers c.args.firsts.now) i [] in
    let old = map (λ (text : Vec ℕ Global). text.items) c.loop-switch.texts.items in
    let selection = c.all_lines-selection.result in
    let d = c.index-dones-switch.result in
    let grown = c.in_ok-push_texts.ensures ∙ ap (λ (fs : List (Option ℕ)). old ++ switch_texts selection fs d.run) here
    ∙ ap (λ (s : State). old ++ switch_texts selection own s.run) c.index-dones-switch.is in
    texts_more selection (map numbers c.args.firsts.now) c.args.dones.now i [] d _ _ (length-map c.args.firsts.now numbers ∙ same) lt c.loop-switch.invariant grown

pub returns : goal.returns
returns c =
    let i = c.loop-switch.switch in
    let past : length c.args.dones.now ≤ i = c.loop-switch-test.false in
    let same = c.requires in
    let firsts = map numbers c.args.firsts.now in
    let long : length firsts ≤ i = omega (arith, past, same, length-map c.args.firsts.now numbers) in (
      c.all_lines-selection.result,
      c.all_lines-selection.ensures,
      c.loop-switch.invariant ∙ ap (λ (fs : List (List (Option ℕ))). network_trace_texts c.all_lines-selection.result fs (take i c.args.dones.now)) (take_all i firsts long)
          ∙ ap (network_trace_texts c.all_lines-selection.result firsts) (take_all i c.args.dones.now past),
    )
