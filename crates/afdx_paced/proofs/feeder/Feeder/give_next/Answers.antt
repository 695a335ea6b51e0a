use Rattle.std.proofs.Common.{◌≡◌, Some, None, set, refl, ap, sym, ◌∙◌, arith, subst}
use Rattle.afdx_core.specs.Rows.{row_of}
use Rattle.afdx_core.specs.State.{refusal_of}
use Rattle.afdx_core.specs.Held.{IsTaken}
use Rattle.afdx_paced.proofs.Heads.{first_in_lanes}
use Rattle.afdx_paced.proofs.Passing.{arrives, passes_on, same_lanes, lane_there, goes_at, none_else, heads_gone, ports_after}
use Rattle.afdx_paced.proofs.Steps.{none_before}
use Rattle.afdx_paced.proofs.feeder.Feeder.give_next.Goals as goal

pub returns-in_default-clause-ok : goal.returns-in_default-clause-ok
returns-in_default-clause-ok g c = none_before c.args.until c.args.self.now c.args.heads.now c.requires.passing c.requires.heads (rw c.in_default.is at c.first_before.ensures)

pub index_mut-lane-requires : goal.index_mut-lane-requires
index_mut-lane-requires g c =
    let first = first_in_lanes c.args.heads.now c.args.self.now.lanes.items (Some (c.in-Some.place, c.in-Some.ensures.stamp)) c.requires.heads c.in-Some.ensures.first in
    let lt = first.within in
    let long = c.args.self.now.lanes.ok.0 in
    omega (arith, lt, long)

pub give-requires-clause-early : goal.give-requires-clause-early
give-requires-clause-early g c =
    let f = c.args.self.now in
    let first = first_in_lanes c.args.heads.now f.lanes.items (Some (c.in-Some.place, c.in-Some.ensures.stamp)) c.requires.heads c.in-Some.ensures.first in
    let at = lane_there f.lanes.items c.in-Some.place c.in-Some.ensures.stamp c.index_mut-lane.result.now _ first c.index_mut-lane.ensures.value in
    let goes = goes_at f.lanes.items (set f.lanes.items c.in-Some.place c.take.new.self)
    c.in-Some.place c.in-Some.ensures.stamp c.index_mut-lane.result.now c.take.new.self c.in-Some-take.frame first at
    c.in-Some-take.ensures refl in
    (arrives c.settled_records_go.ensures.goes c.by_stamp_is_ordered.ensures c.args.until f _ c.in-Some.place c.index_mut-lane.result.now
    c.in-Some-take.frame _ c.requires.of c.requires.passing goes.1).early

pub give-requires-clause-none_else : goal.give-requires-clause-none_else
give-requires-clause-none_else g c =
    let f = c.args.self.now in
    let first = first_in_lanes c.args.heads.now f.lanes.items (Some (c.in-Some.place, c.in-Some.ensures.stamp)) c.requires.heads c.in-Some.ensures.first in
    let at = lane_there f.lanes.items c.in-Some.place c.in-Some.ensures.stamp c.index_mut-lane.result.now _ first c.index_mut-lane.ensures.value in
    let goes = goes_at f.lanes.items (set f.lanes.items c.in-Some.place c.take.new.self)
    c.in-Some.place c.in-Some.ensures.stamp c.index_mut-lane.result.now c.take.new.self c.in-Some-take.frame first at
    c.in-Some-take.ensures refl in
    subst (λ n. refusal_of f.switch.run n c.in-Some-take.frame.stamp ≡ None) (sym c.port-port.ensures)
    (arrives c.settled_records_go.ensures.goes c.by_stamp_is_ordered.ensures c.args.until f _ c.in-Some.place c.index_mut-lane.result.now
    c.in-Some-take.frame _ c.requires.of c.requires.passing goes.1).accepted

pub returns-in_ok-give-in-Some-take-clause-ok : goal.returns-in_ok-give-in-Some-take-clause-ok
returns-in_ok-give-in-Some-take-clause-ok g c =
    let f = c.args.self.now in
    let frame = c.in-Some-take.frame in
    let lane = c.index_mut-lane.result.now in
    let first = first_in_lanes c.args.heads.now f.lanes.items (Some (c.in-Some.place, c.in-Some.ensures.stamp)) c.requires.heads c.in-Some.ensures.first in
    let at = lane_there f.lanes.items c.in-Some.place c.in-Some.ensures.stamp lane _ first c.index_mut-lane.ensures.value in
    let goes = goes_at f.lanes.items c.give.new.self.lanes.items c.in-Some.place c.in-Some.ensures.stamp lane c.take.new.self frame first at
    c.in-Some-take.ensures (ap (λ w. w.items) c.give.ensures.lanes) in
    let same = goes.0 in
    let given = c.in_ok-give-in-Some-take.ensures.ok in
    passes_on c.settled_records_go.ensures.goes c.by_stamp_is_ordered.ensures c.note_counts_one_more.ensures c.args.until f c.give.new.self c.in-Some.place lane frame _ given.0
    c.requires.of c.requires.passing goes.1 (omega (arith, same, c.in-Some.ensures.before)) c.give.ensures.same given.1
    (subst (λ n. IsTaken f.switch c.give.new.self.switch (row_of f.switch.run.table n frame) frame given.0) c.port-port.ensures given.2) given.3

pub returns-in_ok-give-in-Some-take-clause-heads : goal.returns-in_ok-give-in-Some-take-clause-heads
returns-in_ok-give-in-Some-take-clause-heads g c =
    let f = c.args.self.now in
    c.set.ensures ∙ heads_gone c.args.heads.now f.lanes.items c.give.new.self.lanes.items c.in-Some.place c.take.new.self c.head.result c.requires.heads (ap (λ w. w.items) c.give.ensures.lanes)
    c.head.ensures

pub returns-in_ok-give-in-Some-take-clause-of : goal.returns-in_ok-give-in-Some-take-clause-of
returns-in_ok-give-in-Some-take-clause-of g c =
    let f = c.args.self.now in
    let first = first_in_lanes c.args.heads.now f.lanes.items (Some (c.in-Some.place, c.in-Some.ensures.stamp)) c.requires.heads c.in-Some.ensures.first in
    let at = lane_there f.lanes.items c.in-Some.place c.in-Some.ensures.stamp c.index_mut-lane.result.now _ first c.index_mut-lane.ensures.value in
    let goes = goes_at f.lanes.items c.give.new.self.lanes.items c.in-Some.place c.in-Some.ensures.stamp c.index_mut-lane.result.now c.take.new.self c.in-Some-take.frame first at
    c.in-Some-take.ensures (ap (λ w. w.items) c.give.ensures.lanes) in
    ports_after f c.give.new.self (same_lanes f.lanes.items c.give.new.self.lanes.items c.in-Some.place c.index_mut-lane.result.now c.in-Some-take.frame _ goes.1) c.give.ensures.same c.requires.of

pub returns-in_err-give-in-Some-take-clause-of : goal.returns-in_err-give-in-Some-take-clause-of
returns-in_err-give-in-Some-take-clause-of g c =
    let f = c.args.self.now in
    let first = first_in_lanes c.args.heads.now f.lanes.items (Some (c.in-Some.place, c.in-Some.ensures.stamp)) c.requires.heads c.in-Some.ensures.first in
    let at = lane_there f.lanes.items c.in-Some.place c.in-Some.ensures.stamp c.index_mut-lane.result.now _ first c.index_mut-lane.ensures.value in
    let goes = goes_at f.lanes.items c.give.new.self.lanes.items c.in-Some.place c.in-Some.ensures.stamp c.index_mut-lane.result.now c.take.new.self c.in-Some-take.frame first at
    c.in-Some-take.ensures (ap (λ w. w.items) c.give.ensures.lanes) in
    ports_after f c.give.new.self (same_lanes f.lanes.items c.give.new.self.lanes.items c.in-Some.place c.index_mut-lane.result.now c.in-Some-take.frame _ goes.1) c.give.ensures.same c.requires.of

pub returns-in-None-clause-ok : goal.returns-in-None-clause-ok
returns-in-None-clause-ok g c =
    let f = c.args.self.now in
    let first = first_in_lanes c.args.heads.now f.lanes.items (Some (c.in-Some.place, c.in-Some.ensures.stamp)) c.requires.heads c.in-Some.ensures.first in
    absurd (none_else f.lanes.items c.in-Some.place c.in-Some.ensures.stamp c.index_mut-lane.result.now first
    (lane_there f.lanes.items c.in-Some.place c.in-Some.ensures.stamp c.index_mut-lane.result.now _ first c.index_mut-lane.ensures.value) c.in-None.ensures.0)

pub returns-in-None-clause-of : goal.returns-in-None-clause-of
returns-in-None-clause-of g c =
    let f = c.args.self.now in
    let first = first_in_lanes c.args.heads.now f.lanes.items (Some (c.in-Some.place, c.in-Some.ensures.stamp)) c.requires.heads c.in-Some.ensures.first in
    absurd (none_else f.lanes.items c.in-Some.place c.in-Some.ensures.stamp c.index_mut-lane.result.now first
    (lane_there f.lanes.items c.in-Some.place c.in-Some.ensures.stamp c.index_mut-lane.result.now _ first c.index_mut-lane.ensures.value) c.in-None.ensures.0)

pub returns-in-None-clause-heads : goal.returns-in-None-clause-heads
returns-in-None-clause-heads g c =
    let f = c.args.self.now in
    let first = first_in_lanes c.args.heads.now f.lanes.items (Some (c.in-Some.place, c.in-Some.ensures.stamp)) c.requires.heads c.in-Some.ensures.first in
    absurd (none_else f.lanes.items c.in-Some.place c.in-Some.ensures.stamp c.index_mut-lane.result.now first
    (lane_there f.lanes.items c.in-Some.place c.in-Some.ensures.stamp c.index_mut-lane.result.now _ first c.index_mut-lane.ensures.value) c.in-None.ensures.0)
