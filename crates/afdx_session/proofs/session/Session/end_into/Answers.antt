use Rattle.std.proofs.Common.{length, subst, sym, ap, ◌∙◌, inr}
use Rattle.afdx_core.specs.Merge.{merged}
use Rattle.afdx_session.specs.declared.plan.RunFault.TheVariants as run
use Rattle.afdx_session.specs.Streams.{captures_of}
use Rattle.afdx_session.specs.Session.{Seen}
use Rattle.afdx_session.specs.Reading.{IsReadFault}
use Rattle.afdx_session.specs.Finish.{texts_in}
use Rattle.afdx_session.specs.Into.{IsFinishedInto, IsNotFinishedInto}
use Rattle.afdx_session.specs.Outcome.{IsDoneOf}
use Rattle.afdx_session.specs.Inner.View.{texts_at, IsKeptMachine}
use Rattle.afdx_session.proofs.Boxed.{lent_out}
use Rattle.afdx_session.proofs.FirstHeads.{lanes_long}
use Rattle.afdx_session.proofs.Into.{finished_into, session_done}
use Rattle.afdx_session.proofs.Sessions.{seen_so_far, of_error}
use Rattle.afdx_session.proofs.Writing.{gone_is_left}
use Rattle.afdx_session.proofs.session.Session.end_into.Goals as goal

pub end_into-requires-clause-of : goal.end_into-requires-clause-of
end_into-requires-clause-of g c =
    let s = c.self.inside in
    let m = c.deref_mut.result.now in
    let lent = lent_out s.machine.value m s.begun s.failed c.args.self c.deref_mut.ensures.value c.self.view_is c.self.invariant in
    lent.kept.of

pub end_into-requires-clause-handed : goal.end_into-requires-clause-handed
end_into-requires-clause-handed g c =
    let s = c.self.inside in
    let m = c.deref_mut.result.now in
    let lent = lent_out s.machine.value m s.begun s.failed c.args.self c.deref_mut.ensures.value c.self.view_is c.self.invariant in
    lent.kept.handed

pub end_into-requires-clause-ready : goal.end_into-requires-clause-ready
end_into-requires-clause-ready g c =
    let s = c.self.inside in
    let m = c.deref_mut.result.now in
    let lent = lent_out s.machine.value m s.begun s.failed c.args.self c.deref_mut.ensures.value c.self.view_is c.self.invariant in
    (s.begun, lent.kept.ready c.if-self.false)

pub end_into-requires-clause-files : goal.end_into-requires-clause-files
end_into-requires-clause-files g c =
    let s = c.self.inside in
    let m = c.deref_mut.result.now in
    let lent = lent_out s.machine.value m s.begun s.failed c.args.self c.deref_mut.ensures.value c.self.view_is c.self.invariant in
    c.requires ∙ ap (λ (v : Seen). length v.table.ports) (sym lent.view) ∙ sym (lanes_long m.switch.run.table m.lanes.items lent.kept.of)

pub write_all-requires : goal.write_all-requires
write_all-requires g c =
    let s = c.self.inside in
    let m = c.deref_mut.result.now in
    let lent = lent_out s.machine.value m s.begun s.failed c.args.self c.deref_mut.ensures.value c.self.view_is c.self.invariant in
    let ended = c.in_ok-end_into.ensures.ok in
    let rest = c.into_rest-rest in
    let inner = c.into_inner.ensures in
    let left =
    gone_is_left c.sent_goes_on.ensures c.stamps_keep_their_order.ensures.instants c.taken_records_are_the_first.ensures.ends c.end_counts_the_run.ensures m.switch.run.table
    (texts_at m.lanes.items) c.end_into.new.self rest.result ended.1.gone ended.0.table (rw inner at rest.ensures.run) (rw inner at rest.ensures.keeps) (rw inner at rest.ensures.counts)
    (rw inner at rest.ensures.texts) (rw inner at rest.ensures.taken) in (
      m.switch.run.table,
      merged (captures_of ended.1.gone.carrying.going.streams),
      left.1,
      ended.1.long ∙ c.requires ∙ ap (λ (v : Seen). length v.table.ports) (sym lent.view),
    )

pub returns-in_err-end_into-clause-err : goal.returns-in_err-end_into-clause-err
returns-in_err-end_into-clause-err g c =
    let s = c.self.inside in
    let m = c.deref_mut.result.now in
    let lent = lent_out s.machine.value m s.begun s.failed c.args.self c.deref_mut.ensures.value c.self.view_is c.self.invariant in
    let fault = c.in_err-end_into.field-0.0 in
    of_error (λ e. IsNotFinishedInto c.args.self e) c.from_residual.result fault c.from_residual.ensures
    (inr (
      ap (λ (v : Seen). v.failed) (sym c.self.view_is) ∙ c.if-self.false,
      subst (λ (v : Seen). IsReadFault (texts_in v) fault) lent.view c.in_err-end_into.ensures.err,
    ))

pub returns-in_err-write_all-clause-err : goal.returns-in_err-write_all-clause-err
returns-in_err-write_all-clause-err g c =
    of_error (λ e. IsNotFinishedInto c.args.self e) c.from_residual-in_err-write_all.result run.Memory c.from_residual-in_err-write_all.ensures
    (inr (ap (λ (v : Seen). v.failed) (sym c.self.view_is) ∙ c.if-self.false, tt))

pub returns-clause-ok : goal.returns-clause-ok
returns-clause-ok g c =
    let s = c.self.inside in
    let m = c.deref_mut.result.now in
    let lent = lent_out s.machine.value m s.begun s.failed c.args.self c.deref_mut.ensures.value c.self.view_is c.self.invariant in
    let t = m.switch.run.table in
    let ended = c.in_ok-end_into.ensures.ok in
    let rest = c.into_rest-rest in
    let inner = c.into_inner.ensures in
    let run = rw inner at rest.ensures.run in
    let keeps = rw inner at rest.ensures.keeps in
    let counts = rw inner at rest.ensures.counts in
    let texts = rw inner at rest.ensures.texts in
    let taken = rw inner at rest.ensures.taken in
    let read = captures_of ended.1.gone.carrying.going.streams in
    let left =
    gone_is_left c.sent_goes_on.ensures c.stamps_keep_their_order.ensures.instants c.taken_records_are_the_first.ensures.ends c.end_counts_the_run.ensures t
    (texts_at m.lanes.items) c.end_into.new.self rest.result ended.1.gone ended.0.table run keeps counts texts taken in
    let all = c.in_ok-write_all.ensures.rests t (merged read) left.1 (ended.1.long ∙ c.requires ∙ ap (λ (v : Seen). length v.table.ports) (sym lent.view)) in
    let seen = seen_so_far m s.begun s.failed c.args.self lent.view c.if-self.false in
    let kept = subst (λ b. IsKeptMachine m s.begun b) c.if-self.false lent.kept in
    let now = c.write_all.new.self in (
      subst (λ (v : Seen). IsFinishedInto g.F.NewFile.contents v c.args.files.now c.write_all.new.files now.counts) seen
          (finished_into c.takes_join_to_the_output.ensures.stays c.takes_join_to_the_output.ensures.prefix c.accepted_runs_isolate.ensures g.F.NewFile.contents m c.end_into.new.self s.begun
          rest.result read c.args.files.now c.end_into.new.files c.write_all.new.files now.counts kept ended.0 left.0 ended.1 taken left.1.many all.0.counts all.1),
      subst (λ (v : Seen). IsDoneOf v.accepted v.table (texts_in v) now.state) seen
          (session_done c.taken_records_are_the_first.ensures.ends m c.end_into.new.self rest.result.state now.state s.begun kept ended.0 ended.1.gone run keeps
          rest.ensures.is_run
          c.in_ok-write_all.ensures.before),
    )
