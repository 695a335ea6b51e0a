use Rattle.afdx_session.specs.Texts.{texts_of}
use Rattle.afdx_session.specs.Outcome.{table_in, is_cleared}
use Rattle.afdx_session.proofs.WholeRuns.{lent_outcome}
use Rattle.afdx_session.proofs.whole.run.Goals as goal

pub returns-clause-ok : goal.returns-clause-ok
returns-clause-ok g c =
    (lent_outcome c.by_stamp_is_ordered.ensures c.arrivals_change_nothing_earlier.ensures.admission c.stamps_keep_their_order.ensures.instants c.all_start_before_the_last_instant.ensures
    c.taken_records_are_the_first.ensures.ends c.end_counts_the_run.ensures
    c.accepted_runs_isolate.ensures (is_cleared c.args.plan) (table_in c.args.plan) (texts_of c.args.captures.now) c.in_ok-machine.machine c.into_outcome.result c.in_ok-machine.ensures.ok
    c.into_outcome.ensures.captures c.into_outcome.ensures.counts).0

pub returns-clause-isolated : goal.returns-clause-isolated
returns-clause-isolated g c =
    (lent_outcome c.by_stamp_is_ordered.ensures c.arrivals_change_nothing_earlier.ensures.admission c.stamps_keep_their_order.ensures.instants c.all_start_before_the_last_instant.ensures
    c.taken_records_are_the_first.ensures.ends c.end_counts_the_run.ensures
    c.accepted_runs_isolate.ensures (is_cleared c.args.plan) (table_in c.args.plan) (texts_of c.args.captures.now) c.in_ok-machine.machine c.into_outcome.result c.in_ok-machine.ensures.ok
    c.into_outcome.ensures.captures c.into_outcome.ensures.counts).1
