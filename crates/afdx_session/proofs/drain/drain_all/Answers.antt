use Rattle.std.proofs.Common.{◌<◌, ◌≤◌, slice_index_or, sym, subst}
use Rattle.std.proofs.lemmas.Option.{slice_get-get_or}
use Rattle.afdx_session.proofs.Gone.{drains_none, drains_one, drains_all, hands_on, grown_on, grown_length, grown_out}
use Rattle.afdx_session.proofs.drain.drain_all.Goals as goal

pub loop-lane-init : goal.loop-lane-init
loop-lane-init g c = drains_none c.args.switch.now c.args.lanes.now

pub returns-in_err-drain-clause-hands : goal.returns-in_err-drain-clause-hands
returns-in_err-drain-clause-hands g c = hands_on c.args.switch.now c.loop-lane.switch c.drain.new.switch _ c.loop-lane.invariant.hands c.drain.ensures.drained

pub returns-in_err-drain-clause-grown : goal.returns-in_err-drain-clause-grown
returns-in_err-drain-clause-grown g c =
    let old = slice_index_or c.loop-lane.lanes c.loop-lane.lane-index c.lane-item.result in
    grown_on c.args.lanes.now c.loop-lane.lanes c.loop-lane.lane-index old _ c.loop-lane.invariant.grown
    (slice_get-get_or c.loop-lane.lanes c.loop-lane.lane-index c.lane-item.result (subst (λ n. c.loop-lane.lane-index < n)
    (sym (grown_length c.args.lanes.now c.loop-lane.lanes c.loop-lane.invariant.grown)) c.loop-lane-test.true))
    (grown_out old c.drain.new.out c.drain.ensures.grown.0 c.drain.ensures.grown.1)

pub loop-lane-preserved : goal.loop-lane-preserved
loop-lane-preserved g c =
    let old = slice_index_or c.loop-lane.lanes c.loop-lane.lane-index c.lane-item.result in
    drains_one c.sent_goes_on.ensures c.stamps_keep_their_order.ensures.instants c.args.switch.now c.loop-lane.switch c.drain.new.switch c.args.lanes.now c.loop-lane.lanes
    c.loop-lane.lane-index old _
    (slice_get-get_or c.loop-lane.lanes c.loop-lane.lane-index c.lane-item.result (subst (λ n. c.loop-lane.lane-index < n)
    (sym (grown_length c.args.lanes.now c.loop-lane.lanes c.loop-lane.invariant.grown)) c.loop-lane-test.true))
    (grown_out old c.drain.new.out c.drain.ensures.grown.0 c.drain.ensures.grown.1) c.drain.ensures.drained c.drain.ensures.draws
    c.in_ok-drain.ensures.none c.loop-lane.invariant

pub returns-clause-out : goal.returns-clause-out
returns-clause-out g c = drains_all c.args.switch.now c.args.lanes.now c.loop-lane.switch c.loop-lane.lanes c.loop-lane.lane-index
    (subst (λ n. n ≤ c.loop-lane.lane-index) (sym (grown_length c.args.lanes.now c.loop-lane.lanes c.loop-lane.invariant.grown)) c.loop-lane-test.false) c.loop-lane.invariant
