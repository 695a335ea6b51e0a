use Rattle.std.proofs.Common.{rules, ◌≡◌, ◌∙◌, ◌++◌, [], ◌∷◌, true, List, length, map, append_assoc, refl, ap, sym, subst, arith}
use Rattle.std.specs.Prelude.{All}
use Rattle.std.specs.Vec.Iter.{into_iter_items}
use Rattle.std.proofs.lemmas.List.{map-append}
use Rattle.std.proofs.lemmas.List.Elements.{All-head, All-tail}
use Rattle.afdx_core.specs.State.{State}
use Rattle.afdx_count.specs.Tally.{Tally}
use Rattle.afdx_serve.proofs.NetworkMeasureLemmas.{all_taken}
use Rattle.afdx_serve.proofs.network_trace.dones_of.Goals as goal

abbrev Keeps : Tally × State → Type 0
Keeps both = both.1.keeps ≡ true

pub loop-both-init : goal.loop-both-init
loop-both-init c = record {
  whole = refl;
  left = search rules;
  keep = subst (All Keeps) (sym c.into_iter-both-iterator.ensures.into_iter_gives.0) c.requires;
  dones = c.new-dones.ensures.items;
}

pub into_done-requires : goal.into_done-requires
into_done-requires c = All-head Keeps c.in-Some.both (into_iter_items c.next.new.self) (subst (All Keeps) c.in-Some.ensures.steps.0 c.loop-both.invariant.keep)

pub loop-both-preserved : goal.loop-both-preserved
loop-both-preserved c =
    let at = c.loop-both in
    let both = c.in-Some.both in
    let rest = into_iter_items c.next.new.self in
    let steps : into_iter_items at.both-iterator ≡ both ∷ rest = c.in-Some.ensures.steps.0 in
    let second : Tally × State → State = λ b. b.1 in
    record {
      whole = append_assoc at.yielded (both ∷ []) rest ∙ ap (λ (ys : List (Tally × State)). at.yielded ++ ys) (sym steps) ∙ at.invariant.whole;
      left = let was = at.invariant.left in let gone = c.in-Some.ensures.steps.1 in let short = ap (λ (ys : List (Tally × State)). length ys) steps in omega (arith, was, gone, short);
      keep = All-tail Keeps both rest (subst (All Keeps) steps at.invariant.keep);
      dones = c.in_ok-push.ensures.items ∙ ap (λ (ss : List State). ss ++ c.into_done.result ∷ []) at.invariant.dones
          ∙ ap (λ (s : State). map second at.yielded ++ s ∷ []) c.into_done.ensures ∙ sym (map-append second at.yielded (both ∷ []));
    }

pub returns : goal.returns
returns c =
    let at = c.loop-both in
    let all = all_taken at.yielded (into_iter_items at.both-iterator) c.args.switches.items (at.invariant.whole ∙ c.into_iter-both-iterator.ensures.into_iter_gives.0)
    (sym at.invariant.left ∙ c.in-None.ensures.steps.0) in
    at.invariant.dones ∙ ap (λ (ss : List (Tally × State)). map (λ (both : Tally × State). both.1) ss) all
