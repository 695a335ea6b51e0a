use Rattle.std.proofs.Common.{rules, ◌≡◌, ◌∙◌, ◌++◌, ◌+◌, ◌≤◌, [], ◌∷◌, ℕ, List, Vec, Global, length, map, string_bytes, append_assoc, refl, ap, sym, subst, arith}
use Rattle.std.proofs.lemmas.List.{length-append, length-map}
use Rattle.std.specs.Vec.Iter.{into_iter_items}
use Rattle.afdx_core.specs.State.{State}
use Rattle.afdx_count.specs.Tally.{Tally}
use Rattle.afdx_serve.specs.Inner.Watching.{ArePartsOf}
use Rattle.afdx_serve.proofs.NetworkMeasureLemmas.{next_named, all_taken}
use Rattle.afdx_serve.proofs.NetworkTextLemmas.{no_parts, parts_more}
use Rattle.afdx_serve.proofs.network_survey.parts_of.Goals as goal

pub loop-both-init : goal.loop-both-init
loop-both-init c = record {
  whole = refl;
  left = search rules;
  count = refl;
  parts =
      let headed = ap (λ (v : Vec ℕ Global). v.items) c.into_bytes.ensures.value ∙ c.in_ok-heading.ensures in
      no_parts c.args.form (map string_bytes c.args.names.now) _ headed c.new.ensures.items c.new-2.ensures.items;
}

pub overflow_add-switch : goal.overflow_add-switch
overflow_add-switch c =
    let at = c.loop-both in
    let whole = ap (λ (left : List (Tally × State)). at.yielded ++ left) (sym c.in-Some.ensures.steps.0) ∙ at.invariant.whole ∙ c.into_iter-both-iterator.ensures.into_iter_gives.0 in
    let lt = next_named at.yielded (into_iter_items c.next.new.self) c.args.switches.items c.in-Some.both c.args.names.now whole c.requires in
    let count = at.invariant.count in
    let fits : at.switch + 1 ≤ length c.args.names.now = omega (arith, lt, count, length-map c.args.names.now (λ s. string_bytes s)) in
    search (rules, fits)

pub loop-both-preserved : goal.loop-both-preserved
loop-both-preserved c =
    let at = c.loop-both in
    let both = c.in-Some.both in
    let rest = into_iter_items c.next.new.self in
    let names = map string_bytes c.args.names.now in
    let steps : into_iter_items at.both-iterator ≡ both ∷ rest = c.in-Some.ensures.steps.0 in
    let whole = ap (λ (left : List (Tally × State)). at.yielded ++ left) (sym steps) ∙ at.invariant.whole in
    let lt = next_named at.yielded rest c.args.switches.items both c.args.names.now (whole ∙ c.into_iter-both-iterator.ensures.into_iter_gives.0) c.requires in
    record {
      whole = append_assoc at.yielded (both ∷ []) rest ∙ whole;
      left = let was = at.invariant.left in let gone = c.in-Some.ensures.steps.1 in let short = ap (λ (ys : List (Tally × State)). length ys) steps in omega (arith, was, gone, short);
      count = let was = at.invariant.count in omega (arith, was, length-append at.yielded (both ∷ []));
      parts = parts_more c.args.form names at.yielded both at.switch _ _ _ at.invariant.count (let count = at.invariant.count in omega (arith, lt, count)) c.name_of.ensures
          at.invariant.parts c.in_ok-add.ensures;
    }

pub returns : goal.returns
returns c =
    let at = c.loop-both in
    let all = all_taken at.yielded (into_iter_items at.both-iterator) c.args.switches.items (at.invariant.whole ∙ c.into_iter-both-iterator.ensures.into_iter_gives.0)
    (sym at.invariant.left ∙ c.in-None.ensures.steps.0) in
    subst (λ (ss : List (Tally × State)). ArePartsOf c.args.form (map string_bytes c.args.names.now) ss at.parts) all at.invariant.parts
