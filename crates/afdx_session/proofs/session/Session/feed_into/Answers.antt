use Rattle.std.proofs.Common.{◌++◌, length, ap, sym, ◌∙◌, subst}
use Rattle.afdx_session.specs.declared.machine.Machine.{Machine}
use Rattle.afdx_session.specs.Session.{Seen, fed_bytes}
use Rattle.afdx_session.specs.Lanes.{IsPieceFault}
use Rattle.afdx_session.specs.Inner.Stop.{IsStoppedBy}
use Rattle.afdx_session.proofs.Boxed.{lent_out, lanes_boxed, lanes_lent}
use Rattle.afdx_session.proofs.FirstHeads.{lanes_long}
use Rattle.afdx_session.proofs.LeftLanes.{has_not_failed, is_open_there}
use Rattle.afdx_session.proofs.Sessions.{open_at}
use Rattle.afdx_session.proofs.TakenInto.{fed_parts, fed_stops, kept_into}
use Rattle.afdx_session.proofs.session.Session.feed_into.Goals as goal

pub unreachable-requires : goal.unreachable-requires
unreachable-requires g c =
    let s = c.self.inside in
    let lanes = lanes_boxed s.machine.value c.deref.result.now c.deref-2.result.now c.deref.ensures c.deref-2.ensures.value in
    is_open_there s.machine.value s.begun s.failed c.args.self c.deref-2.result.now c.args.port c.in_default.field-0 c.self.view_is lanes c.requires.may c.in_default.ensures.err

pub feed_into-requires-clause-of : goal.feed_into-requires-clause-of
feed_into-requires-clause-of g c =
    let s = c.self.inside in
    let m = c.deref_mut.result.now in
    let lent = lent_out s.machine.value m s.begun s.failed c.args.self c.deref_mut.ensures.value c.self.view_is c.self.invariant in
    lent.kept.of

pub feed_into-requires-clause-handed : goal.feed_into-requires-clause-handed
feed_into-requires-clause-handed g c =
    let s = c.self.inside in
    let m = c.deref_mut.result.now in
    let lent = lent_out s.machine.value m s.begun s.failed c.args.self c.deref_mut.ensures.value c.self.view_is c.self.invariant in
    lent.kept.handed

pub feed_into-requires-clause-ready : goal.feed_into-requires-clause-ready
feed_into-requires-clause-ready g c =
    let s = c.self.inside in
    let m = c.deref_mut.result.now in
    let lent = lent_out s.machine.value m s.begun s.failed c.args.self c.deref_mut.ensures.value c.self.view_is c.self.invariant in
    let not_failed = ap (λ (w : Seen). w.failed) c.self.view_is ∙ has_not_failed c.args.self c.args.port c.requires.may in
    (s.begun, lent.kept.ready not_failed)

pub feed_into-requires-clause-still_open : goal.feed_into-requires-clause-still_open
feed_into-requires-clause-still_open g c =
    let s = c.self.inside in
    let m = c.deref_mut.result.now in
    let lanes = lanes_lent s.machine.value c.deref.result.now m c.deref-2.result.now c.deref.ensures c.deref_mut.ensures.value c.deref-2.ensures.value in
    let is_open = open_at c.deref-2.result.now m.lanes.items c.args.port c.in-Ok.place lanes c.in-Ok.ensures.ok in
    (c.args.port, is_open)

pub feed_into-requires-clause-files : goal.feed_into-requires-clause-files
feed_into-requires-clause-files g c =
    let s = c.self.inside in
    let m = c.deref_mut.result.now in
    let lent = lent_out s.machine.value m s.begun s.failed c.args.self c.deref_mut.ensures.value c.self.view_is c.self.invariant in
    c.requires.files ∙ ap (λ (v : Seen). length v.table.ports) (sym lent.view) ∙ sym (lanes_long m.switch.run.table m.lanes.items lent.kept.of)

pub invariant_of-result : goal.invariant_of-result
invariant_of-result g c =
    let s = c.self.inside in
    let m = c.deref_mut.result.now in
    let lent = lent_out s.machine.value m s.begun s.failed c.args.self c.deref_mut.ensures.value c.self.view_is c.self.invariant in
    kept_into c.by_stamp_is_ordered.ensures c.arrivals_change_nothing_earlier.ensures.admission c.stamps_keep_their_order.ensures.instants c.all_start_before_the_last_instant.ensures
    g.F.NewFile.contents m c.feed_into.new.self s.begun s.failed c.args.files.now c.feed_into.new.files _ c.in-Ok-feed_into.ensures.ok.on lent.kept

pub returns-in-Ok-feed_into-clause-ok : goal.returns-in-Ok-feed_into-clause-ok
returns-in-Ok-feed_into-clause-ok g c =
    let s = c.self.inside in
    let laws = c.takes_join_to_the_output.ensures in
    let not_failed = ap (λ (w : Seen). w.failed) c.self.view_is ∙ has_not_failed c.args.self c.args.port c.requires.may in
    let m = c.deref_mut.result.now in
    let lent = lent_out s.machine.value m s.begun s.failed c.args.self c.deref_mut.ensures.value c.self.view_is c.self.invariant in
    let lanes = lanes_lent s.machine.value c.deref.result.now m c.deref-2.result.now c.deref.ensures c.deref_mut.ensures.value c.deref-2.ensures.value in
    let is_open = open_at c.deref-2.result.now m.lanes.items c.args.port c.in-Ok.place lanes c.in-Ok.ensures.ok in
    fed_parts c.by_stamp_is_ordered.ensures c.arrivals_change_nothing_earlier.ensures.admission c.stamps_keep_their_order.ensures.instants c.all_start_before_the_last_instant.ensures
    laws.stays laws.joins g.F.NewFile.contents m c.feed_into.new.self s.begun s.failed c.args.self c.args.port c.in-Ok.place c.args.piece.now c.args.files.now
    c.feed_into.new.files lent.view not_failed lent.kept.of is_open c.in-Ok-feed_into.ensures.ok

pub returns-in-Err-clause-err : goal.returns-in-Err-clause-err
returns-in-Err-clause-err g c =
    let s = c.self.inside in
    let v = c.args.self in
    let port = c.args.port in
    let fault = c.in-Err.fault in
    let not_failed = ap (λ (w : Seen). w.failed) c.self.view_is ∙ has_not_failed c.args.self c.args.port c.requires.may in
    let m = c.deref_mut.result.now in
    let lent = lent_out s.machine.value m s.begun s.failed c.args.self c.deref_mut.ensures.value c.self.view_is c.self.invariant in
    let lanes = lanes_lent s.machine.value c.deref.result.now m c.deref-2.result.now c.deref.ensures c.deref_mut.ensures.value c.deref-2.ensures.value in
    let is_open = open_at c.deref-2.result.now m.lanes.items c.args.port c.in-Ok.place lanes c.in-Ok.ensures.ok in
    let left = c.into_lanes.ensures ∙ ap (λ (n : Machine _). n.lanes) c.into_inner.ensures in
    subst (λ ls. IsStoppedBy v port fault ls.items (IsPieceFault (fed_bytes v port ++ c.args.piece.now) port fault)) (sym left)
    (fed_stops m c.feed_into.new.self.lanes.items s.begun s.failed v port c.in-Ok.place c.args.piece.now fault lent.view not_failed lent.kept.of (lent.kept.ready not_failed) is_open
    c.in-Err.ensures.err)
