use Rattle.afdx_session.proofs.Draining.{fewer_left}
use Rattle.std.proofs.Common.{sym, subst}
use Rattle.afdx_core.specs.State.{State}
use Rattle.afdx_session.specs.Inner.Rest.{IsAsBefore}
use Rattle.afdx_session.proofs.Drawing.{as_before, draws_start, draws_on, draws_same, drained_on, starts_drained, same_handed}
use Rattle.afdx_session.proofs.rest.drain_rest.Goals as goal

pub loop-init : goal.loop-init
loop-init g c = record {
  drained = starts_drained _ _;
  draws = λ given place at long has. draws_start given _ place _ _;
}

pub loop-preserved : goal.loop-preserved
loop-preserved g c =
    let more = c.in_ok-next_out_into.ensures.ok.text c.if-branch.true in
    let was = c.loop.invariant in
    record {
      drained = drained_on _ _ _ _ more.0 more.1.0 more.1.1 c.requires was.drained more.1.2;
      draws = λ given place at long has. draws_on given _ place _ _ _ _ _ _ more.0 more.1.0 more.1.1 at c.requires long has (was.draws given place at long has) more.1.2 more.2;
    }

pub loop-smaller : goal.loop-smaller
loop-smaller g c =
    let more = c.in_ok-next_out_into.ensures.ok.text c.if-branch.true in
    fewer_left _ _ _ more.0 more.1.0 more.1.1 (same_handed _ _ _ c.requires c.loop.invariant.drained) more.1.2

pub returns-in_err-next_out_into-clause-draws : goal.returns-in_err-next_out_into-clause-draws
returns-in_err-next_out_into-clause-draws g c = λ given place at long has.
    draws_same given _ place _ _ _ _ _ _ c.in_err-next_out_into.ensures.err c.in_err-next_out_into.ensures.err_capture (c.loop.invariant.draws given place at long has)

pub returns-clause-draws : goal.returns-clause-draws
returns-clause-draws g c = λ given place at long has.
    let none = c.in_ok-next_out_into.ensures.ok.none c.if-branch.false in
    draws_same given _ place _ _ _ _ _ _ none.0.1 none.1 (c.loop.invariant.draws given place at long has)

pub returns-in_err-next_out_into-clause-before : goal.returns-in_err-next_out_into-clause-before
returns-in_err-next_out_into-clause-before g c =
    subst (λ (s : State). IsAsBefore c.args.switch.now s) (sym c.in_err-next_out_into.ensures.err) (as_before _ _ _ c.loop.invariant.drained)

pub returns-clause-before : goal.returns-clause-before
returns-clause-before g c =
    let none = c.in_ok-next_out_into.ensures.ok.none c.if-branch.false in
    subst (λ (s : State). IsAsBefore c.args.switch.now s) (sym none.0.1) (as_before _ _ _ c.loop.invariant.drained)
