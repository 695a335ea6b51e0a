use Rattle.std.proofs.Common.{◌++◌}
use Rattle.afdx_session.specs.Session.{fed_bytes, IsRefused}
use Rattle.afdx_session.specs.Lanes.{IsPieceFault}
use Rattle.afdx_session.proofs.Boxed.{lent_out, lanes_boxed, lanes_lent}
use Rattle.afdx_session.proofs.Sessions.{refused_place, of_error, open_at, kept_fed, kept_half, answers_fed, answers_not_fed}
use Rattle.afdx_session.proofs.session.Session.feed.Goals as goal

pub returns-in_err-place-clause-err : goal.returns-in_err-place-clause-err
returns-in_err-place-clause-err g c =
    let v = c.args.self.now in
    let s = c.self.inside in
    let Why = IsPieceFault (fed_bytes v c.args.port ++ c.args.piece.now) c.args.port in
    let lanes = lanes_boxed s.machine.value c.deref.result.now c.deref-2.result.now c.deref.ensures c.deref-2.ensures.value in
    of_error (λ fault. IsRefused v v c.args.port fault (Why fault)) c.from_residual.result c.in_err-place.field-0.0 c.from_residual.ensures
    (refused_place s.machine.value s.begun s.failed v c.deref-2.result.now c.args.port c.in_err-place.field-0.0 (Why c.in_err-place.field-0.0) c.self.view_is c.if-self.false lanes
    c.in_err-place.ensures.err)

pub feed-requires-clause-of : goal.feed-requires-clause-of
feed-requires-clause-of g c =
    let s = c.self.inside in
    let m = c.deref_mut.result.now in
    let lent = lent_out s.machine.value m s.begun s.failed c.args.self.now c.deref_mut.ensures.value c.self.view_is c.self.invariant in
    lent.kept.of

pub feed-requires-clause-handed : goal.feed-requires-clause-handed
feed-requires-clause-handed g c =
    let s = c.self.inside in
    let m = c.deref_mut.result.now in
    let lent = lent_out s.machine.value m s.begun s.failed c.args.self.now c.deref_mut.ensures.value c.self.view_is c.self.invariant in
    lent.kept.handed

pub feed-requires-clause-ready : goal.feed-requires-clause-ready
feed-requires-clause-ready g c =
    let s = c.self.inside in
    let m = c.deref_mut.result.now in
    let lent = lent_out s.machine.value m s.begun s.failed c.args.self.now c.deref_mut.ensures.value c.self.view_is c.self.invariant in
    (s.begun, lent.kept.ready c.if-self.false)

pub feed-requires-clause-still_open : goal.feed-requires-clause-still_open
feed-requires-clause-still_open g c =
    let s = c.self.inside in
    let m = c.deref_mut.result.now in
    let lanes = lanes_lent s.machine.value c.deref.result.now m c.deref-2.result.now c.deref.ensures c.deref_mut.ensures.value c.deref-2.ensures.value in
    let is_open = open_at c.deref-2.result.now m.lanes.items c.args.port c.in_ok-place.place lanes c.in_ok-place.ensures.ok in
    (c.args.port, is_open)

pub invariant_of-self : goal.invariant_of-self
invariant_of-self g c =
    let s = c.self.inside in
    let m = c.deref_mut.result.now in
    let lent = lent_out s.machine.value m s.begun s.failed c.args.self.now c.deref_mut.ensures.value c.self.view_is c.self.invariant in
    kept_fed c.by_stamp_is_ordered.ensures c.arrivals_change_nothing_earlier.ensures.admission c.stamps_keep_their_order.ensures.instants c.all_start_before_the_last_instant.ensures
    m c.feed.new.self s.begun s.failed c.in_ok-place.place c.args.piece.now
    c.if-self.false c.feed.ensures.same c.in-Ok.ensures.ok.1 c.in-Ok.ensures.ok.0 lent.kept

pub invariant_of-self-in-Err : goal.invariant_of-self-in-Err
invariant_of-self-in-Err g c =
    let s = c.self.inside in
    let m = c.deref_mut.result.now in
    let lent = lent_out s.machine.value m s.begun s.failed c.args.self.now c.deref_mut.ensures.value c.self.view_is c.self.invariant in
    kept_half m c.feed.new.self s.begun s.failed c.if-self.false c.feed.ensures.same c.in-Err.ensures.err.half lent.kept

pub returns-in-Ok-clause-ok : goal.returns-in-Ok-clause-ok
returns-in-Ok-clause-ok g c =
    let s = c.self.inside in
    let m = c.deref_mut.result.now in
    let lent = lent_out s.machine.value m s.begun s.failed c.args.self.now c.deref_mut.ensures.value c.self.view_is c.self.invariant in
    let lanes = lanes_lent s.machine.value c.deref.result.now m c.deref-2.result.now c.deref.ensures c.deref_mut.ensures.value c.deref-2.ensures.value in
    let is_open = open_at c.deref-2.result.now m.lanes.items c.args.port c.in_ok-place.place lanes c.in_ok-place.ensures.ok in
    answers_fed m c.feed.new.self s.begun s.failed c.args.self.now c.args.port c.in_ok-place.place c.args.piece.now lent.view c.if-self.false lent.kept.of is_open c.feed.ensures.same
    c.in-Ok.ensures.ok.1

pub returns-in-Err-clause-err : goal.returns-in-Err-clause-err
returns-in-Err-clause-err g c =
    let s = c.self.inside in
    let m = c.deref_mut.result.now in
    let lent = lent_out s.machine.value m s.begun s.failed c.args.self.now c.deref_mut.ensures.value c.self.view_is c.self.invariant in
    let lanes = lanes_lent s.machine.value c.deref.result.now m c.deref-2.result.now c.deref.ensures c.deref_mut.ensures.value c.deref-2.ensures.value in
    let is_open = open_at c.deref-2.result.now m.lanes.items c.args.port c.in_ok-place.place lanes c.in_ok-place.ensures.ok in
    answers_not_fed m c.feed.new.self s.begun s.failed c.args.self.now c.args.port c.in_ok-place.place c.args.piece.now c.in-Err.fault lent.view c.if-self.false lent.kept.of is_open
    c.feed.ensures.same c.in-Err.ensures.err
