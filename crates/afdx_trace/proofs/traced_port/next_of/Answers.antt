use Rattle.std.proofs.Common.{◌≤◌, ◌<◌, arith, ◌∙◌}
use Rattle.afdx_trace.proofs.FirstEvent.{first_none, first_sent, first_aged, first_of_both_aged, first_of_both_sent}
use Rattle.afdx_trace.proofs.traced_port.next_of.Goals as goal

pub returns-then-ns : goal.returns-then-ns
returns-then-ns c = λ left order sent_is aged_is.
    let le : c.in-Some-Some.aged.at ≤ c.in-Some-Some.sent.begin = omega (arith, c.ns.ensures.same, c.ns-in-Some-Some.ensures.same, c.if-ns.true) in
    first_of_both_aged c.in-Some-Some.sent c.in-Some-Some.aged le left order (sent_is ∙ c.in-Some-Some.is-0) (aged_is ∙ c.in-Some-Some.is-1)

pub returns-else-ns : goal.returns-else-ns
returns-else-ns c = λ left order sent_is aged_is.
    let lt : c.in-Some-Some.sent.begin < c.in-Some-Some.aged.at = omega (arith, c.ns.ensures.same, c.ns-in-Some-Some.ensures.same, c.if-ns.false) in
    first_of_both_sent c.in-Some-Some.sent c.in-Some-Some.aged lt left order (sent_is ∙ c.in-Some-Some.is-0) (aged_is ∙ c.in-Some-Some.is-1)

pub returns-in-Some-None : goal.returns-in-Some-None
returns-in-Some-None c = λ left order sent_is aged_is. first_sent c.in-Some-None.sent left order (sent_is ∙ c.in-Some-None.is-0) (aged_is ∙ c.in-Some-None.is-1)

pub returns-in-None-Some : goal.returns-in-None-Some
returns-in-None-Some c = λ left order sent_is aged_is. first_aged c.in-None-Some.aged left order (sent_is ∙ c.in-None-Some.is-0) (aged_is ∙ c.in-None-Some.is-1)

pub returns-in-None-None : goal.returns-in-None-None
returns-in-None-None c = λ left order sent_is aged_is. first_none left order (sent_is ∙ c.in-None-None.is-0) (aged_is ∙ c.in-None-None.is-1)
