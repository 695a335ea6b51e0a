use Rattle.std.proofs.Common.{set, refl, ap, sym, ◌∙◌, subst}
use Rattle.std.specs.Vec.{with_item}
use Rattle.afdx_core.specs.State.{State}
use Rattle.afdx_paced.specs.Paced.{Paced, lane_at, GoesOut}
use Rattle.afdx_paced.specs.Inner.Parts.{departed}
use Rattle.afdx_paced.specs.Inner.Kept.{paced_of}
use Rattle.afdx_paced.specs.declared.feeder.Feeder.{Feeder}
use Rattle.afdx_paced.proofs.Calls.{placed_at, not_placed, lane_read, going_is}
use Rattle.afdx_paced.proofs.Leaving.{goes_out, none_out, no_port}
use Rattle.afdx_paced.proofs.paced.Paced.next_out.Goals as goal

pub returns-in_default-clause-ok : goal.returns-in_default-clause-ok
returns-in_default-clause-ok g c =
    let s = c.self.inside in
    let going = going_is s.feeder s.reached s.failed c.args.self.now c.self.view_is c.requires.going in
    let view = rw going at c.self.view_is in
    no_port c.args.self.now _ c.args.port
    (ap (λ (v : Paced). lane_at v c.args.port) (sym view)
    ∙ not_placed s.feeder c.deref.result.now c.args.port c.deref.ensures.value (sym c.place_of.ensures ∙ c.in_default.is)) refl

pub invariant_of-self-in-Some-2 : goal.invariant_of-self-in-Some-2
invariant_of-self-in-Some-2 g c =
    let s = c.self.inside in
    let going = going_is s.feeder s.reached s.failed c.args.self.now c.self.view_is c.requires.going in
    let view = rw going at c.self.view_is in
    let is = placed_at s.feeder c.deref.result.now c.args.port c.in-Some.place c.deref.ensures.value c.self.invariant.0 (sym c.in-Some.ensures) in
    let out = c.in-Some-2.frame in
    let given = rw c.in-Some-2.is at c.in_ok-frame.ensures.ok in
    let lane = lane_read s.feeder.switch.run.table.ports s.feeder.lanes.items c.args.port c.in-Some.place c.index_mut.result.now _ is c.index_mut.ensures.value in
    let lanes = ap (set s.feeder.lanes.items c.in-Some.place) (c.depart.ensures ∙ ap (departed out) (sym lane)) in
    let new : Feeder g.row.A.Denot = record { switch = c.next_out.new.self; counts = s.feeder.counts; lanes = with_item s.feeder.lanes c.in-Some.place c.depart.new.self } in
    let gone = goes_out c.later_arrivals_change_nothing.ensures c.merges_are_cut.ensures c.by_stamp_is_ordered.ensures c.service_is_of_items.ensures.sent s.reached s.feeder new c.args.self.now
    c.args.port c.in-Some.place out given.0 given.1 is view c.self.invariant.0 (c.self.invariant.1 going) given.2 refl lanes in
    (gone.of, λ e. gone.going)

pub returns-in-Some-2-clause-ok : goal.returns-in-Some-2-clause-ok
returns-in-Some-2-clause-ok g c =
    let s = c.self.inside in
    let going = going_is s.feeder s.reached s.failed c.args.self.now c.self.view_is c.requires.going in
    let view = rw going at c.self.view_is in
    let is = placed_at s.feeder c.deref.result.now c.args.port c.in-Some.place c.deref.ensures.value c.self.invariant.0 (sym c.in-Some.ensures) in
    let out = c.in-Some-2.frame in
    let given = rw c.in-Some-2.is at c.in_ok-frame.ensures.ok in
    let lane = lane_read s.feeder.switch.run.table.ports s.feeder.lanes.items c.args.port c.in-Some.place c.index_mut.result.now _ is c.index_mut.ensures.value in
    let lanes = ap (set s.feeder.lanes.items c.in-Some.place) (c.depart.ensures ∙ ap (departed out) (sym lane)) in
    let new : Feeder g.row.A.Denot = record { switch = c.next_out.new.self; counts = s.feeder.counts; lanes = with_item s.feeder.lanes c.in-Some.place c.depart.new.self } in
    let gone = goes_out c.later_arrivals_change_nothing.ensures c.merges_are_cut.ensures c.by_stamp_is_ordered.ensures c.service_is_of_items.ensures.sent s.reached s.feeder new c.args.self.now
    c.args.port c.in-Some.place out given.0 given.1 is view c.self.invariant.0 (c.self.invariant.1 going) given.2 refl lanes in
    subst (λ failed. GoesOut c.args.self.now (paced_of new s.reached failed) c.args.port out) (sym going) gone.out_is

pub returns-in-None-clause-ok : goal.returns-in-None-clause-ok
returns-in-None-clause-ok g c =
    let s = c.self.inside in
    let going = going_is s.feeder s.reached s.failed c.args.self.now c.self.view_is c.requires.going in
    let view = rw going at c.self.view_is in
    let is = placed_at s.feeder c.deref.result.now c.args.port c.in-Some.place c.deref.ensures.value c.self.invariant.0 (sym c.in-Some.ensures) in
    let given = rw c.in-None.is at c.in_ok-frame.ensures.ok in
    let with_switch : State → Feeder g.row.A.Denot = λ st. record { switch = st; counts = s.feeder.counts; lanes = s.feeder.lanes } in
    none_out c.later_arrivals_change_nothing.ensures c.merges_are_cut.ensures c.by_stamp_is_ordered.ensures s.reached s.feeder c.args.self.now _ c.args.port c.in-Some.place is view
    (c.self.invariant.1 going) given.0 (ap (λ (st : State). paced_of (with_switch st) s.reached s.failed) given.1 ∙ c.self.view_is)
