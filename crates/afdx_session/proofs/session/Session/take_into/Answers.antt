use Rattle.std.proofs.Common.{refl, ap, sym, ◌∙◌, arith}
use Rattle.std.specs.Vec.{vec_len, with_item}
use Rattle.afdx_session.specs.declared.machine.Machine.{Machine}
use Rattle.afdx_session.proofs.Boxed.{lent_out, lanes_boxed, lanes_lent}
use Rattle.afdx_session.proofs.Places.{position_at, is_lane_of}
use Rattle.afdx_session.proofs.Sessions.{lane_at, port_at, no_port_at, take_fits, take_reaches, answers_take_into, take_into_fails, take_is_known, take_is_unknown}
use Rattle.afdx_session.proofs.Taken.{kept_taken_into}
use Rattle.afdx_session.proofs.session.Session.take_into.Goals as goal

pub index_mut-requires : goal.index_mut-requires
index_mut-requires g c =
    let lt = (position_at (is_lane_of c.args.port) c.deref-2.result.now c.in-Some.place (sym c.in-Some.ensures)).1 in
    let long = c.deref-2.ensures.len in
    let same = ap (λ (n : Machine _). vec_len n.lanes) (c.deref.ensures ∙ sym c.deref_mut.ensures.value) in
    omega (arith, lt, long, same)

pub take_into-requires-clause-bound : goal.take_into-requires-clause-bound
take_into-requires-clause-bound g c =
    let s = c.self.inside in
    let m = c.deref_mut.result.now in
    let lent = lent_out s.machine.value m s.begun s.failed c.args.self.now c.deref_mut.ensures.value c.self.view_is c.self.invariant in
    let lanes = lanes_lent s.machine.value c.deref.result.now m c.deref-2.result.now c.deref.ensures c.deref_mut.ensures.value c.deref-2.ensures.value in
    let at = port_at c.deref-2.result.now m.lanes.items c.args.port c.in-Some.place lanes (sym c.in-Some.ensures) in
    let lane = lane_at m.lanes.items c.args.port c.in-Some.place c.index_mut.result.now at c.index_mut.ensures.value in
    take_fits m s.begun s.failed c.args.port c.in-Some.place c.index_mut.result.now lent.kept at lane

pub take_into-requires-clause-ready : goal.take_into-requires-clause-ready
take_into-requires-clause-ready g c =
    let s = c.self.inside in
    let m = c.deref_mut.result.now in
    let lent = lent_out s.machine.value m s.begun s.failed c.args.self.now c.deref_mut.ensures.value c.self.view_is c.self.invariant in
    let lanes = lanes_lent s.machine.value c.deref.result.now m c.deref-2.result.now c.deref.ensures c.deref_mut.ensures.value c.deref-2.ensures.value in
    let at = port_at c.deref-2.result.now m.lanes.items c.args.port c.in-Some.place lanes (sym c.in-Some.ensures) in
    let lane = lane_at m.lanes.items c.args.port c.in-Some.place c.index_mut.result.now at c.index_mut.ensures.value in
    take_reaches m s.begun s.failed c.args.port c.in-Some.place c.index_mut.result.now lent.kept at lane

pub invariant_of-self : goal.invariant_of-self
invariant_of-self g c =
    let s = c.self.inside in
    let m = c.deref_mut.result.now in
    let lent = lent_out s.machine.value m s.begun s.failed c.args.self.now c.deref_mut.ensures.value c.self.view_is c.self.invariant in
    let lanes = lanes_lent s.machine.value c.deref.result.now m c.deref-2.result.now c.deref.ensures c.deref_mut.ensures.value c.deref-2.ensures.value in
    let at = port_at c.deref-2.result.now m.lanes.items c.args.port c.in-Some.place lanes (sym c.in-Some.ensures) in
    let lane = lane_at m.lanes.items c.args.port c.in-Some.place c.index_mut.result.now at c.index_mut.ensures.value in
    kept_taken_into m _ s.begun s.failed c.in-Some.place c.index_mut.result.now c.take_into.new.self c.take_into.result lane
    c.take_into.ensures.taken c.take_into.ensures.err refl refl refl lent.kept

pub returns-in-Some-clause-known : goal.returns-in-Some-clause-known
returns-in-Some-clause-known g c =
    let s = c.self.inside in
    let m = c.deref_mut.result.now in
    let lent = lent_out s.machine.value m s.begun s.failed c.args.self.now c.deref_mut.ensures.value c.self.view_is c.self.invariant in
    let lanes = lanes_lent s.machine.value c.deref.result.now m c.deref-2.result.now c.deref.ensures c.deref_mut.ensures.value c.deref-2.ensures.value in
    let at = port_at c.deref-2.result.now m.lanes.items c.args.port c.in-Some.place lanes (sym c.in-Some.ensures) in
    let lane = lane_at m.lanes.items c.args.port c.in-Some.place c.index_mut.result.now at c.index_mut.ensures.value in
    answers_take_into g.F.NewFile.contents m (record { switch = m.switch; counts = m.counts; lanes = with_item m.lanes c.in-Some.place c.take_into.new.self }) s.begun s.failed
    c.args.self.now c.args.port c.in-Some.place c.index_mut.result.now c.take_into.new.self c.args.file.now c.take_into.new.file c.take_into.result lent.view lent.kept at lane
    c.take_into.ensures.gives c.take_into.ensures.taken refl refl

pub returns-in-Some-clause-unknown : goal.returns-in-Some-clause-unknown
returns-in-Some-clause-unknown g c =
    let s = c.self.inside in
    let lanes = lanes_boxed s.machine.value c.deref.result.now c.deref-2.result.now c.deref.ensures c.deref-2.ensures.value in
    take_is_known s.machine.value s.begun s.failed c.args.self.now c.args.port c.in-Some.place _ c.self.view_is c.self.invariant.of
    (port_at c.deref-2.result.now s.machine.value.lanes.items c.args.port c.in-Some.place lanes (sym c.in-Some.ensures))

pub returns-in-Some-clause-err : goal.returns-in-Some-clause-err
returns-in-Some-clause-err g c =
    let s = c.self.inside in
    let m = c.deref_mut.result.now in
    let lent = lent_out s.machine.value m s.begun s.failed c.args.self.now c.deref_mut.ensures.value c.self.view_is c.self.invariant in
    let lanes = lanes_lent s.machine.value c.deref.result.now m c.deref-2.result.now c.deref.ensures c.deref_mut.ensures.value c.deref-2.ensures.value in
    let at = port_at c.deref-2.result.now m.lanes.items c.args.port c.in-Some.place lanes (sym c.in-Some.ensures) in
    let lane = lane_at m.lanes.items c.args.port c.in-Some.place c.index_mut.result.now at c.index_mut.ensures.value in
    take_into_fails m (record { switch = m.switch; counts = m.counts; lanes = with_item m.lanes c.in-Some.place c.take_into.new.self }) s.begun s.failed c.args.self.now
    c.in-Some.place c.index_mut.result.now c.take_into.new.self c.take_into.result lent.view lane c.take_into.ensures.err refl refl

pub returns-in-None-clause-known : goal.returns-in-None-clause-known
returns-in-None-clause-known g c =
    let s = c.self.inside in
    let lanes = lanes_boxed s.machine.value c.deref.result.now c.deref-2.result.now c.deref.ensures c.deref-2.ensures.value in
    take_is_unknown s.machine.value s.begun s.failed c.args.self.now c.args.port _ c.self.view_is c.self.invariant.of
    (no_port_at c.deref-2.result.now s.machine.value.lanes.items c.args.port lanes (sym c.in-None.ensures))
