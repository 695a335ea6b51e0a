use Rattle.std.proofs.Common.{map, ap, ◌∙◌}
use Rattle.afdx_core.specs.State.{after_finish}
use Rattle.afdx_count.specs.Tally.{ended_tally}
use Rattle.afdx_session.specs.declared.lane.Lane.{Lane}
use Rattle.afdx_session.specs.declared.machine.Machine.{Machine}
use Rattle.afdx_session.proofs.Boxed.{lent_out}
use Rattle.afdx_session.proofs.Sessions.{kept_half, answers_finished, answers_not_finished}
use Rattle.afdx_session.proofs.session.Session.finish.Goals as goal

pub end-requires-clause-of : goal.end-requires-clause-of
end-requires-clause-of g c =
    let s = c.self.inside in
    let m = c.deref_mut.result.now in
    let lent = lent_out s.machine.value m s.begun s.failed c.args.self c.deref_mut.ensures.value c.self.view_is c.self.invariant in
    lent.kept.of

pub end-requires-clause-handed : goal.end-requires-clause-handed
end-requires-clause-handed g c =
    let s = c.self.inside in
    let m = c.deref_mut.result.now in
    let lent = lent_out s.machine.value m s.begun s.failed c.args.self c.deref_mut.ensures.value c.self.view_is c.self.invariant in
    lent.kept.handed

pub end-requires-clause-ready : goal.end-requires-clause-ready
end-requires-clause-ready g c =
    let s = c.self.inside in
    let m = c.deref_mut.result.now in
    let lent = lent_out s.machine.value m s.begun s.failed c.args.self c.deref_mut.ensures.value c.self.view_is c.self.invariant in
    (s.begun, lent.kept.ready c.if-self.false)

pub into_outcome-requires-clause-room : goal.into_outcome-requires-clause-room
into_outcome-requires-clause-room g c = rw c.into_inner.ensures c.in-Ok.ensures.ok.3

pub invariant_of-failed : goal.invariant_of-failed
invariant_of-failed g c =
    let s = c.self.inside in
    let m = c.deref_mut.result.now in
    let lent = lent_out s.machine.value m s.begun s.failed c.args.self c.deref_mut.ensures.value c.self.view_is c.self.invariant in
    kept_half m c.end.new.self s.begun s.failed c.if-self.false c.end.ensures.same c.end.ensures.half lent.kept

pub returns-in-Ok-clause-ok : goal.returns-in-Ok-clause-ok
returns-in-Ok-clause-ok g c =
    let s = c.self.inside in
    let m = c.deref_mut.result.now in
    let lent = lent_out s.machine.value m s.begun s.failed c.args.self c.deref_mut.ensures.value c.self.view_is c.self.invariant in
    let captures = c.into_outcome.ensures.captures ∙ ap (λ (n : Machine _). map (λ (l : Lane _). (l.port, l.out.items)) n.lanes.items) c.into_inner.ensures in
    let counts = c.into_outcome.ensures.counts ∙ ap (λ (n : Machine _). ended_tally (after_finish n.switch.run) n.counts) c.into_inner.ensures in
    answers_finished c.by_stamp_is_ordered.ensures c.arrivals_change_nothing_earlier.ensures.admission c.stamps_keep_their_order.ensures.instants c.all_start_before_the_last_instant.ensures
    c.taken_records_are_the_first.ensures.ends c.end_counts_the_run.ensures c.accepted_runs_isolate.ensures m c.end.new.self s.begun s.failed c.args.self c.into_outcome.result lent.view
    c.if-self.false lent.kept c.end.ensures.same c.end.ensures.half c.in-Ok.ensures.ok.1 c.in-Ok.ensures.ok.0 captures counts

pub returns-in-Err-clause-err : goal.returns-in-Err-clause-err
returns-in-Err-clause-err g c =
    let s = c.self.inside in
    let m = c.deref_mut.result.now in
    let lent = lent_out s.machine.value m s.begun s.failed c.args.self c.deref_mut.ensures.value c.self.view_is c.self.invariant in
    answers_not_finished m c.end.new.self s.begun s.failed c.args.self c.in-Err.fault lent.view c.if-self.false c.end.ensures.same c.end.ensures.half c.in-Err.ensures.err
