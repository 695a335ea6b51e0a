use Rattle.std.proofs.Common.{rules, ◌≡◌, ◌∙◌, ◌++◌, ◌+◌, ◌≤◌, [], ◌∷◌, ℕ, List, length, map, string_bytes, append_assoc, append-nil, refl, ap, sym, arith}
use Rattle.std.proofs.lemmas.List.{length-append, length-map}
use Rattle.std.specs.Vec.Iter.{into_iter_items}
use Rattle.afdx_core.specs.State.{State}
use Rattle.afdx_count.specs.Tally.{Tally}
use Rattle.afdx_csv.specs.declared.form.Form.{Form}
use Rattle.afdx_rows.specs.Delays.{network_measure_columns}
use Rattle.afdx_serve.specs.NetworkMeasures.{buffers_of, buffers_in}
use Rattle.afdx_serve.proofs.NetworkMeasureLemmas.{none_said, one_more_said_of, next_named, all_taken}
use Rattle.afdx_serve.proofs.network_measure.put_all_buffers.Goals as goal

-- what is written of the buffers of a switch
abbrev said : Form → List ℕ → Tally → State → List ℕ
said form name counts s = buffers_of form network_measure_columns name s

pub loop-both-init : goal.loop-both-init
loop-both-init c = record {
  whole = refl;
  left = search rules;
  count = refl;
  text = sym (ap (λ (more : List ℕ). c.args.text.now.items ++ more) (none_said (said c.args.form) (map string_bytes c.args.names.now)) ∙ append-nil c.args.text.now.items);
}

pub overflow_add-switch : goal.overflow_add-switch
overflow_add-switch c =
    let at = c.loop-both in
    let whole = ap (λ (left : List (Tally × State)). at.yielded ++ left) (sym c.in-Some.ensures.steps.0) ∙ at.invariant.whole ∙ c.into_iter-both-iterator.ensures.into_iter_gives.0 in
    let lt = next_named at.yielded (into_iter_items c.next.new.self) c.args.switches.items c.in-Some.both c.args.names.now whole c.requires in
    let count = at.invariant.count in
    let fits : at.switch + 1 ≤ length c.args.names.now = omega (arith, lt, count, length-map c.args.names.now (λ s. string_bytes s)) in
    search (rules, fits)

pub loop-both-preserved : goal.loop-both-preserved
loop-both-preserved c =
    let at = c.loop-both in
    let both = c.in-Some.both in
    let rest = into_iter_items c.next.new.self in
    let names = map string_bytes c.args.names.now in
    let steps : into_iter_items at.both-iterator ≡ both ∷ rest = c.in-Some.ensures.steps.0 in
    let whole = ap (λ (left : List (Tally × State)). at.yielded ++ left) (sym steps) ∙ at.invariant.whole in
    let lt = next_named at.yielded rest c.args.switches.items both c.args.names.now (whole ∙ c.into_iter-both-iterator.ensures.into_iter_gives.0) c.requires in
    let more = c.in_ok-push_buffers.ensures ∙ ap (λ (s : State). at.text.items ++ said c.args.form c.name_of.result.now both.0 s) c.in-Some-into_measures.ensures in
    record {
      whole = append_assoc at.yielded (both ∷ []) rest ∙ whole;
      left = let was = at.invariant.left in let gone = c.in-Some.ensures.steps.1 in let short = ap (λ (ys : List (Tally × State)). length ys) steps in omega (arith, was, gone, short);
      count = let was = at.invariant.count in omega (arith, was, length-append at.yielded (both ∷ []));
      text = one_more_said_of (said c.args.form) names at.yielded both at.switch _ _ _ _ at.invariant.count (let count = at.invariant.count in omega (arith, lt, count)) c.name_of.ensures
          at.invariant.text more;
    }

pub returns : goal.returns
returns c =
    let at = c.loop-both in
    let all = all_taken at.yielded (into_iter_items at.both-iterator) c.args.switches.items (at.invariant.whole ∙ c.into_iter-both-iterator.ensures.into_iter_gives.0)
    (sym at.invariant.left ∙ c.in-None.ensures.steps.0) in
    at.invariant.text ∙ ap (λ (ss : List (Tally × State)). c.args.text.now.items ++ buffers_in c.args.form network_measure_columns (map string_bytes c.args.names.now) ss) all
