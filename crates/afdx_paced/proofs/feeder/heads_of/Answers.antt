use Rattle.std.proofs.Common.{◌∙◌}
use Rattle.afdx_paced.proofs.Heads.{heads_more, heads_all}
use Rattle.afdx_paced.proofs.feeder.heads_of.Goals as goal

pub loop-place-preserved : goal.loop-place-preserved
loop-place-preserved g c =
    c.set.ensures
    ∙ heads_more c.args.lanes.now c.loop-place.heads c.loop-place.place c.index-lanes-place.result c.head.result c.loop-place-test.true c.loop-place.invariant c.index-lanes-place.is
    c.head.ensures

pub returns : goal.returns
returns g c = heads_all c.args.lanes.now c.loop-place.heads c.loop-place.place c.loop-place-test.false c.loop-place.auto.place-end c.loop-place.invariant
