use Rattle.std.proofs.Common.{◌≡◌, ◌+◌, sym, ◌∙◌, ap, take, arith, subst}
use Rattle.std.specs.Prelude.{All}
use Rattle.std.proofs.lemmas.List.{take_all}
use Rattle.afdx_wiring.specs.File.{Layout}
use Rattle.afdx_network.specs.Inner.Sites.{IsWithin}
use Rattle.afdx_network.proofs.Choosing.{look_more, look_stays}
use Rattle.afdx_network.proofs.windows.look_of.Goals as goal
use Rattle.afdx_network.proofs.windows.look_of.Goals.{in-Some, in_default}

pub loop-wire-preserved : goal.loop-wire-preserved
loop-wire-preserved c = elim c.match-least_of.branch [
  | in-Some w ↦
      let here = w.look-is in
      let is = w.min-look.ensures in
      let least = w.in-Some.ensures.positive in
      let positive = c.loop-wire.invariant.positive in
      record {
        positive = omega (arith, here, is, least, positive);
        least = look_more c.args.network.now c.loop-wire.look c.match-least_of.look w.in-Some.least c.as_slice-wires.result.now c.loop-wire.wire-index _ c.loop-wire-test.true
            (omega (arith, here, is)) (omega (arith, here, is)) w.in-Some.ensures.least c.loop-wire.invariant.least;
      }
  | in_default w ↦
      let here = w.look-is in
      let positive = c.loop-wire.invariant.positive in
      record {
        positive = omega (arith, here, positive);
        least = subst (λ look. All (IsWithin c.args.network.now look) (take (c.loop-wire.wire-index + 1) c.as_slice-wires.result.now)) (sym here)
            (look_stays c.args.network.now c.loop-wire.look c.as_slice-wires.result.now c.loop-wire.wire-index _ c.loop-wire-test.true w.in_default.ensures.least c.loop-wire.invariant.least);
      }
]

pub returns : goal.returns
returns c =
    let wires : c.as_slice-wires.result.now ≡ c.args.network.now.layout.wires
    = c.as_slice-wires.ensures.value ∙ ap (λ (l : Layout). l.wires) (c.behind-network.view_is ∙ c.layout.ensures.layout) in
    let past = c.loop-wire-test.false in
    record {
      positive = c.loop-wire.invariant.positive;
      least = subst (All (IsWithin c.args.network.now c.loop-wire.look)) (take_all c.loop-wire.wire-index c.as_slice-wires.result.now (omega (arith, past)) ∙ wires) c.loop-wire.invariant.least;
    }
