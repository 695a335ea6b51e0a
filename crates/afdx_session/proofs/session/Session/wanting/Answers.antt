use Rattle.std.proofs.Common.{false, ap, sym, ◌∙◌, subst}
use Rattle.afdx_measure.specs.Wanted.{keeps_lists}
use Rattle.afdx_session.specs.declared.machine.Machine.{Machine}
use Rattle.afdx_session.specs.Outcome.{table_in, is_cleared}
use Rattle.afdx_session.specs.Inner.View.{seen_of, IsKeptMachine}
use Rattle.afdx_session.proofs.Fresh.{fresh_kept, fresh_seen}
use Rattle.afdx_session.proofs.session.Session.wanting.Goals as goal

pub invariant_of-result : goal.invariant_of-result
invariant_of-result g c =
    let made = c.in_ok-made.ensures in
    subst (λ (m : Machine _). IsKeptMachine m false false) (sym c.in_ok-machine.ensures.ok)
    (fresh_kept c.starts_with_none.ensures (is_cleared c.args.plan) (keeps_lists c.args.wanted) (table_in c.args.plan) c.in_ok-made.made made.formed made.accepted made.fresh.0 made.fresh.1
    made.fresh.2)

pub returns-clause-ok : goal.returns-clause-ok
returns-clause-ok g c =
    let made = c.in_ok-made.ensures in
    ap (λ (m : Machine _). seen_of m false false) c.in_ok-machine.ensures.ok
    ∙ fresh_seen (is_cleared c.args.plan) (keeps_lists c.args.wanted) (table_in c.args.plan) c.in_ok-made.made made.fresh.0 made.fresh.2
