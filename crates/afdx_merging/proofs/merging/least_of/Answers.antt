use Rattle.std.proofs.Common.{ap, ◌∙◌}
use Rattle.afdx_units.specs.Time.{earlier_of}
use Rattle.afdx_merging.proofs.Firsts.{least_more, least_all}
use Rattle.afdx_merging.proofs.merging.least_of.Goals as goal

pub loop-lane-preserved : goal.loop-lane-preserved
loop-lane-preserved g c =
    least_more c.args.lanes.now c.loop-lane.lane-index c.lane-item.result c.loop-lane.least c.earlier_of-least.result c.loop-lane-test.true c.lane-item.is
    (c.earlier_of-least.ensures ∙ ap (λ stamp. earlier_of c.loop-lane.least stamp) c.stamp.ensures) c.loop-lane.invariant

pub returns : goal.returns
returns g c = least_all c.args.lanes.now c.loop-lane.lane-index c.loop-lane.least c.loop-lane-test.false c.loop-lane.invariant
