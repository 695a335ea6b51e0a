use Rattle.std.proofs.Common.{refl, ◌∙◌}
use Rattle.std.proofs.lemmas.Result.{on_ok_weaker}
use Rattle.afdx_session.proofs.machine.Machine.lend_and_carry.Goals as goal

pub carry_all-requires : goal.carry_all-requires
carry_all-requires g c = c.in_ok-lend_all.ensures.ok.0

pub returns-clause-ok : goal.returns-clause-ok
returns-clause-ok g c =
    let lent = c.in_ok-lend_all.ensures.ok in
    on_ok_weaker c.carry_all.result (λ on. record { carrying = on.carrying; over = on.texts ∙ lent.1; all = on.all refl }) c.carry_all.ensures.ok

pub returns-clause-taken : goal.returns-clause-taken
returns-clause-taken g c =
    let lent = c.in_ok-lend_all.ensures.taken in
    on_ok_weaker c.carry_all.result (λ on. on.taken ∙ lent) c.carry_all.ensures.ok
