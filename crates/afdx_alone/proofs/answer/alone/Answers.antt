use Rattle.std.proofs.Common.{rules}
use Rattle.afdx_alone.proofs.Stopping.{answered, whole_fault}
use Rattle.afdx_alone.proofs.answer.alone.Goals as goal

pub take-requires-clause-polices : goal.take-requires-clause-polices
take-requires-clause-polices g c = (c.args.input.now, c.in_ok-policing.ensures.polices c.args.input.now)

pub returns-in_err-take-clause-fault : goal.returns-in_err-take-clause-fault
returns-in_err-take-clause-fault g c =
    let why = whole_fault c.args.input.now c.in_err-take.field-0.0 (c.in_err-take.ensures.taken c.args.input.now (c.in_ok-policing.ensures.polices c.args.input.now)) in
    search rules

pub returns-clause-answer : goal.returns-clause-answer
returns-clause-answer g c =
    let all = c.args.input.now in
    rw c.into_answer.ensures (answered c.args.link.now all c.in_ok-take.field-0.now c.take.new.self c.in_ok-take.ensures.left (c.in_ok-take.ensures.taken all (c.in_ok-policing.ensures.polices all)))
