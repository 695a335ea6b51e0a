use Rattle.std.proofs.Common.{List, get_or, arith, sym, ap, subst, ◌∙◌}
use Rattle.afdx_pairing.specs.Events.{Numbered}
use Rattle.afdx_following.specs.Output.{Output, HasComeBy, with_came}
use Rattle.afdx_following.proofs.Changing.{one_changed, all_changed, not_yet}
use Rattle.afdx_following.proofs.watched.hand_all.Goals as goal

pub loop-output-preserved : goal.loop-output-preserved
loop-output-preserved g c =
    let old = c.output-item.result in
    let came = c.in_ok-came.ensures
    ∙ ap (λ (n : Numbered). with_came n c.args.passes (get_or c.loop-output.outputs c.loop-output.output-index old)) c.in_ok-again.ensures in
    one_changed (λ (o : Output). with_came c.args.frame.now c.args.passes o) c.args.outputs.now c.loop-output.outputs c.loop-output.output-index old c.came.new.self (omega arith)
    c.loop-output.invariant c.output-item.is came

pub returns : goal.returns
returns g c =
    all_changed (λ (o : Output). with_came c.args.frame.now c.args.passes o) c.args.outputs.now c.loop-output.outputs c.loop-output.output-index (omega arith) c.loop-output.invariant

pub came-requires : goal.came-requires
came-requires g c =
    let d = c.output-item.result in
    subst (λ (o : Output). HasComeBy c.in_ok-again.field-0.frame.stamp o) c.output-item.is
    (subst (λ (n : Numbered). HasComeBy n.frame.stamp d) (sym c.in_ok-again.ensures)
    (not_yet (HasComeBy c.args.frame.now.frame.stamp) (λ (o : Output). with_came c.args.frame.now c.args.passes o) c.args.outputs.now c.loop-output.output-index d (omega arith)
    (c.output-item.is ∙ ap (λ (os : List Output). get_or os c.loop-output.output-index d) c.loop-output.invariant) c.requires))
