use Rattle.std.proofs.Common.{◌<◌, ◌≤◌, length, sym, subst, ◌∙◌, ap}
use Rattle.std.proofs.lemmas.Option.{slice_get-get_or}
use Rattle.afdx_session.specs.Inner.View.{AreSettledLanes}
use Rattle.afdx_session.proofs.Settles.{back_items, SettledUpTo, settled_none, settled_more, settled_all}
use Rattle.afdx_session.proofs.machine.Machine.settle.Goals as goal

pub loop-lane-init : goal.loop-lane-init
loop-lane-init g c = subst (λ ls. SettledUpTo 0 c.args.self.now.lanes.items ls) (sym c.deref_mut-lane-items.ensures.value) (settled_none c.args.self.now.lanes.items)

pub loop-lane-preserved : goal.loop-lane-preserved
loop-lane-preserved g c =
    let items = c.loop-lane.lane-items in
    let lt = subst (λ n. c.loop-lane.lane-index < n) (sym c.loop-lane.auto.lane-items) c.loop-lane-test.true in
    settled_more c.loop-lane.lane-index c.args.self.now.lanes.items items _ _ (slice_get-get_or items c.loop-lane.lane-index c.lane-item.result lt) c.settle.ensures c.loop-lane.invariant

pub returns-clause-lanes : goal.returns-clause-lanes
returns-clause-lanes g c =
    let v = c.args.self.now.lanes in
    let items = c.loop-lane.lane-items in
    let le = subst (λ n. n ≤ c.loop-lane.lane-index) (sym c.loop-lane.auto.lane-items) c.loop-lane-test.false in
    subst (λ ls. AreSettledLanes v.items ls) (sym (back_items v items (c.loop-lane.auto.lane-items ∙ ap (λ ls. length ls) c.deref_mut-lane-items.ensures.value)))
    (settled_all c.loop-lane.lane-index v.items items le c.loop-lane.invariant)
