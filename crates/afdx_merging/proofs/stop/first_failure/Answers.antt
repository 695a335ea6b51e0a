use Rattle.std.proofs.Common.{arith, length}
use Rattle.std.proofs.lemmas.Option.{slice_get_within}
use Rattle.afdx_merging.proofs.Stopping.{unread_fails}
use Rattle.afdx_merging.proofs.stop.first_failure.Goals as goal

pub returns-in-Ok-fault_of_all-clause-answer : goal.returns-in-Ok-fault_of_all-clause-answer
returns-in-Ok-fault_of_all-clause-answer g c = λ first stopped.
    let own = rw c.in-Capture.is at stopped in
    let all = c.in-Ok-fault_of_all.ensures.ok first own in
    (all.0, λ k r at. all.1 k r (omega arith) (slice_get_within c.fault_of_all.new.readers k r at) at)

pub returns-in-Err-fault_of_all-clause-answer : goal.returns-in-Err-fault_of_all-clause-answer
returns-in-Err-fault_of_all-clause-answer g c = λ first stopped.
    let own = rw c.in-Capture.is at stopped in
    let long = stopped.long in
    unread_fails g.R.Read.remaining first c.fault_of_all.new.readers (length c.args.readers.now) c.in-Err-fault_of_all.fault (omega (arith, long)) (c.in-Err-fault_of_all.ensures.err first own)

pub returns-in-Ok-clause-answer : goal.returns-in-Ok-clause-answer
returns-in-Ok-clause-answer g c = λ first stopped.
    let within = stopped.within in
    let long = stopped.long in
    (omega (arith, within, long), λ k r lt at. c.in-Ok.ensures.ends k r (omega arith) lt at)

pub returns-in-Err-clause-answer : goal.returns-in-Err-clause-answer
returns-in-Err-clause-answer g c = λ first stopped.
    let within = stopped.within in
    let long = stopped.long in
    unread_fails g.R.Read.remaining first c.read_all_out.new.readers c.args.place c.in-Err.fault (omega (arith, within, long)) c.in-Err.ensures.err
