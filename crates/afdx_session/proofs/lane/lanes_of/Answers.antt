use Rattle.std.proofs.Common.{◌+◌, take, sym, subst}
use Rattle.std.proofs.lemmas.Option.{slice_get-get_or}
use Rattle.afdx_session.specs.Inner.View.{AreFreshLanes}
use Rattle.afdx_session.proofs.Settles.{fresh_more, fresh_all}
use Rattle.afdx_session.proofs.lane.lanes_of.Goals as goal

pub loop-row-init : goal.loop-row-init
loop-row-init g c = rw c.new-lanes.ensures.items tt

pub loop-row-preserved : goal.loop-row-preserved
loop-row-preserved g c =
    subst (λ ls. AreFreshLanes (take (c.loop-row.row-index + 1) c.args.ports.now) ls) (sym c.in_ok-push.ensures.items)
    (fresh_more c.loop-row.row-index c.args.ports.now _ _ _ c.loop-row-test.true (slice_get-get_or c.args.ports.now c.loop-row.row-index _ c.loop-row-test.true)
    c.loop-row.invariant c.in_ok-lane.ensures)

pub returns : goal.returns
returns g c = fresh_all c.loop-row.row-index c.args.ports.now _ c.loop-row-test.false c.loop-row.invariant
