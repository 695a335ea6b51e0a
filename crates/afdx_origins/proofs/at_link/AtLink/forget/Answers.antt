use Rattle.std.proofs.Common.{◌<◌, ◌+◌, List, [], ◌∷◌, ◌++◌, length, refl, ap, sym, ◌∙◌, append_assoc, arith}
use Rattle.std.proofs.lemmas.List.Elements.{All-nil, All-push}
use Rattle.afdx_origins.specs.declared.at_link.Coming.{Coming}
use Rattle.afdx_origins.specs.Origins.{kept_for}
use Rattle.afdx_origins.proofs.at_link.AtLink.forget.Goals as goal

pub loop-now-init : goal.loop-now-init
loop-now-init c = record { delays = refl; coming = ([], refl, All-nil (λ (x : Coming). x.at + kept_for < c.args.now)) }

pub loop-now-preserved : goal.loop-now-preserved
loop-now-preserved c =
    let was = c.loop-now.invariant in
    let one = c.forget_one.ensures.some c.loop-now-test.true in
    record {
      delays = c.forget_one.ensures.delays ∙ was.delays;
      coming = (
        was.coming.0 ++ one.0 ∷ [],
        was.coming.1 ∙ ap (λ (xs : List Coming). was.coming.0 ++ xs) one.1 ∙ sym (append_assoc was.coming.0 (one.0 ∷ []) c.forget_one.new.self.coming.items),
        All-push (λ (x : Coming). x.at + kept_for < c.args.now) was.coming.0 one.0 was.coming.2 one.2,
      );
    }

pub loop-now-smaller : goal.loop-now-smaller
loop-now-smaller c =
    let one = c.forget_one.ensures.some c.loop-now-test.true in
    let fewer = ap (λ (xs : List Coming). length xs) one.1 in
    omega (arith, fewer)

pub returns-clause-delays : goal.returns-clause-delays
returns-clause-delays c = c.forget_one.ensures.delays ∙ c.loop-now.invariant.delays

pub returns-clause-coming : goal.returns-clause-coming
returns-clause-coming c =
    let was = c.loop-now.invariant.coming in
    (was.0, was.1 ∙ ap (λ (xs : List Coming). was.0 ++ xs) (sym (c.forget_one.ensures.none c.loop-now-test.false)), was.2)
