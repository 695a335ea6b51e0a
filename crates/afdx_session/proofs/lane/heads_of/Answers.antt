use Rattle.std.proofs.Common.{◌∙◌}
use Rattle.afdx_session.proofs.FirstHeads.{heads_more, heads_all}
use Rattle.afdx_session.proofs.lane.heads_of.Goals as goal

pub loop-place-preserved : goal.loop-place-preserved
loop-place-preserved g c =
    c.set.ensures
    ∙ heads_more c.args.lanes.now c.loop-place.heads c.loop-place.place c.index-lanes-place.result c.head_of.result c.loop-place-test.true c.loop-place.invariant c.index-lanes-place.is
    c.head_of.ensures

pub returns : goal.returns
returns g c = c.of.ensures ∙ heads_all c.args.lanes.now c.loop-place.heads c.loop-place.place c.loop-place-test.false c.loop-place.auto.place-end c.loop-place.invariant
