use Rattle.afdx_session.proofs.plan.Plan.table.Goals as goal

pub returns-in-Unchecked-clause-accepted : goal.returns-in-Unchecked-clause-accepted
returns-in-Unchecked-clause-accepted c = rw c.in-Unchecked.is (λ cleared. absurd cc)
