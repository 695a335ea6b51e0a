use Rattle.std.proofs.Common.{◌≡◌, ◌++◌, [], ◌∷◌, List, length, false, rules, refl, ap, sym, ◌∙◌, append_assoc, arith, subst}
use Rattle.std.specs.Prelude.{All}
use Rattle.std.specs.List.{AllZip}
use Rattle.std.specs.Vec.Iter.{into_iter_items}
use Rattle.std.proofs.lemmas.List.Elements.{All-head, All-tail}
use Rattle.afdx_core.specs.State.{State}
use Rattle.afdx_count.specs.Tally.{Tally}
use Rattle.afdx_network.specs.Inner.Sites.{Site}
use Rattle.afdx_network.specs.Inner.Noted.{HasEnded}
use Rattle.afdx_network.proofs.Choosing.{zip_more}
use Rattle.afdx_network.proofs.windows.measured_of.Goals as goal

pub loop-site-init : goal.loop-site-init
loop-site-init c =
    let items = c.into_iter-site-iterator.ensures.into_iter_gives.0 in
    record {
      whole = refl;
      left = search rules;
      going = subst (All (λ (s : Site). s.paced.failed ≡ false)) (sym items) c.requires;
      ended = subst (AllZip HasEnded []) (sym c.new-all.ensures.items) tt;
    }

pub into_measured-requires : goal.into_measured-requires
into_measured-requires c = record {
  going = All-head (λ (s : Site). s.paced.failed ≡ false) c.in-Some.site (into_iter_items c.next.new.self)
      (subst (All (λ (s : Site). s.paced.failed ≡ false)) c.in-Some.ensures.steps.0 c.loop-site.invariant.going);
}

pub loop-site-preserved : goal.loop-site-preserved
loop-site-preserved c =
    let at = c.loop-site in
    let site = c.in-Some.site in
    let rest = into_iter_items c.next.new.self in
    let steps : into_iter_items at.site-iterator ≡ site ∷ rest = c.in-Some.ensures.steps.0 in
    let o = c.in_ok-into_measured.field-0 in
    record {
      whole = append_assoc at.yielded (site ∷ []) rest ∙ ap (λ (ys : List Site). at.yielded ++ ys) (sym steps) ∙ at.invariant.whole;
      left = let was = at.invariant.left in let gone = c.in-Some.ensures.steps.1 in let short = ap (λ (ys : List Site). length ys) steps in omega (arith, was, gone, short);
      going = All-tail (λ (s : Site). s.paced.failed ≡ false) site rest (subst (All (λ (s : Site). s.paced.failed ≡ false)) steps at.invariant.going);
      ended = subst (λ (os : List (Tally × State)). AllZip HasEnded (at.yielded ++ site ∷ []) os) (sym c.in_ok-push.ensures.items)
          (zip_more HasEnded at.yielded at.all.items site o at.invariant.ended
          (record { counts = c.in_ok-into_measured.ensures.counts; switch = c.in_ok-into_measured.ensures.switch; kept = c.in_ok-into_measured.ensures.kept }));
    }
