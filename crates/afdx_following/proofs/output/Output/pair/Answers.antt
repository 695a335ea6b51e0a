use Rattle.std.proofs.Common.{◌≡◌, drop, List, arith, sym, ap, refl, ◌∙◌}
use Rattle.std.specs.Prelude.{slice_get}
use Rattle.afdx_pairing.specs.Events.{Numbered}
use Rattle.afdx_pairing.specs.Kept.{Left}
use Rattle.afdx_following.specs.Output.{Output, with_sight}
use Rattle.afdx_following.proofs.Paired.{pairs_next, one_waits, pairs_end}
use Rattle.afdx_following.proofs.output.Output.pair.Goals as goal
use Rattle.afdx_following.proofs.output.Output.pair.Goals.{in-Some+in_ok-pair_one, in_default}

pub loop-init : goal.loop-init
loop-init g c = refl

pub loop-preserved : goal.loop-preserved
loop-preserved g c =
    let o = c.args.self.now in
    let k = c.loop.counter in
    let now = c.loop.self in
    let i = c.self-in-loop.inside in
    let view : record { port = i.port; limits = i.limits; pairing = i.pairing; waiting = i.waiting; found = i.found } ≡ now = c.self-in-loop.view_is in
    let first : slice_get now.waiting 0 ≡ c.pop.result = ap (λ (x : Output). slice_get x.waiting 0) (sym view) ∙ sym c.pop.ensures.some in
    elim c.match-pop.branch [
      | in-Some+in_ok-pair_one w ↦ pairs_next o now c.match-pop.self k w.in-Some.left c.loop.invariant (first ∙ w.in-Some.is)
          (w.self-is ∙ w.in_ok-pair_one.ensures ∙ ap (λ (ns : List Numbered). with_sight (Left w.in-Some.left)
          (record { port = i.port; limits = i.limits; pairing = i.pairing; waiting = ns; found = i.found })) c.pop.ensures.rest
          ∙ ap (λ (x : Output). with_sight (Left w.in-Some.left) (record x { waiting = drop 1 x.waiting })) view)
      | in_default w ↦ absurd (one_waits o now k c.loop.invariant (omega (arith, c.loop-test.true, c.settled-count.ensures.some)) (first ∙ w.in_default.is))
    ]

pub returns : goal.returns
returns g c = pairs_end c.args.unknown c.args.self.now c.loop.self c.loop.counter c.settled-count.result c.loop.invariant c.settled-count.ensures.count
    (omega (arith, c.loop-test.false, c.loop.auto.counter-end))
