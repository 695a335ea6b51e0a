use Rattle.std.proofs.Common.{◌≡◌, refl, ◌∙◌}
use Rattle.afdx_network.specs.declared.fault.NetworkRunFault.TheVariants as fault
use Rattle.afdx_network.specs.Given.{IsWireFault}
use Rattle.afdx_network.specs.Inner.Sites.{AreEarly}
use Rattle.afdx_network.proofs.Answering.{of_error, match_error}
use Rattle.afdx_network.proofs.Visiting.{all_stay, all_on}
use Rattle.afdx_network.proofs.windows.drain.Goals as goal

pub loop-init : goal.loop-init
loop-init c = record {
  going = c.requires.going;
  all = c.requires.all;
  place = c.requires.place;
  gone = refl;
  reached = λ h all. all;
  ok = λ given begin end le w. (w, all_stay end c.args.sites.now);
  early = λ given begin end le w none accepted early. early;
  noted = λ keeps known. known;
}

pub loop-preserved : goal.loop-preserved
loop-preserved c =
    let before = c.loop.invariant in
    let now = c.in_ok-carry.ensures in
    record {
      going = now.going.0;
      all = c.carry.auto.sites ∙ before.all;
      place = now.going.1;
      gone = now.gone ∙ before.gone;
      reached = λ h all. now.reached h (before.reached h all);
      ok = λ given begin end le w.
          let was = before.ok given begin end le w in
          let is = now.ok given begin end le was.0 in
          (is.window, all_on end c.args.sites.now c.loop.sites c.carry.new.sites was.1 is.on);
      early = λ given begin end le w none accepted early.
          now.early given begin end le (before.ok given begin end le w).0 none accepted (before.early given begin end le w none accepted early);
      noted = λ keeps known. now.noted keeps (before.noted keeps known);
    }

pub loop-smaller : goal.loop-smaller
loop-smaller c = c.in_ok-carry.ensures.fewer c.if-branch.true

pub returns-clause-reached : goal.returns-clause-reached
returns-clause-reached c = λ h all. c.in_ok-carry.ensures.reached h (c.loop.invariant.reached h all)

pub returns-clause-gone : goal.returns-clause-gone
returns-clause-gone c = c.in_ok-carry.ensures.gone ∙ c.loop.invariant.gone

pub returns-clause-ok : goal.returns-clause-ok
returns-clause-ok c = λ given begin end le w.
    let was = c.loop.invariant.ok given begin end le w in
    let is = c.in_ok-carry.ensures.ok given begin end le was.0 in
    record { window = is.window; on = all_on end c.args.sites.now c.loop.sites c.carry.new.sites was.1 is.on; none = λ same. is.none c.if-branch.false }

pub returns-clause-early : goal.returns-clause-early
returns-clause-early c = λ given begin end le w none accepted early.
    c.in_ok-carry.ensures.early given begin end le (c.loop.invariant.ok given begin end le w).0 none accepted (c.loop.invariant.early given begin end le w none accepted early)

pub returns-in_err-carry-clause-err : goal.returns-in_err-carry-clause-err
returns-in_err-carry-clause-err c = λ given begin end le w.
    of_error (IsWireFault c.args.network.now) c.from_residual.result c.in_err-carry.field-0.0 c.from_residual.ensures
    (c.in_err-carry.ensures.err given begin end le (c.loop.invariant.ok given begin end le w).0)

pub returns-in_err-carry-clause-early : goal.returns-in_err-carry-clause-early
returns-in_err-carry-clause-early c = λ given begin end le w none accepted early.
    match_error (λ _. AreEarly none.order.place c.carry.new.sites) (λ why. why ≡ fault.Memory) c.from_residual.result c.in_err-carry.field-0.0 c.from_residual.ensures
    (c.in_err-carry.ensures.early given begin end le (c.loop.invariant.ok given begin end le w).0 none accepted (c.loop.invariant.early given begin end le w none accepted early))

pub returns-clause-noted : goal.returns-clause-noted
returns-clause-noted c = λ keeps known. c.in_ok-carry.ensures.noted keeps (c.loop.invariant.noted keeps known)
