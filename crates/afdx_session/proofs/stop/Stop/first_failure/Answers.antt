use Rattle.std.proofs.Common.{sym, subst, ◌∙◌}
use Rattle.afdx_session.specs.Inner.Stop.{AreStoppedAt}
use Rattle.afdx_session.proofs.Stopping.{unread_fails}
use Rattle.afdx_session.proofs.stop.Stop.first_failure.Goals as goal

pub returns-in-Ok-fault_of_all : goal.returns-in-Ok-fault_of_all
returns-in-Ok-fault_of_all g c = λ t first is.
    let rem = g.R.Read.remaining in
    let stopped = rw c.in-Capture.is at is in
    c.in-Ok-fault_of_all.ensures.ok t first
    (subst (AreStoppedAt rem t first c.args.readers.now c.in-Capture.place c.in-Capture.why) (sym c.deref_mut.ensures.value) stopped)

pub returns : goal.returns
returns g c = λ t first is.
    let stopped = rw c.in-Capture.is at is in
    unread_fails g.R.Read.remaining t first c.args.readers.now c.in-Err-fault_of_all.fault (stopped.many ∙ sym stopped.long) c.in-Err-fault_of_all.ensures.err
