use Rattle.std.proofs.Common.{◌≡◌, ◌+◌, List, get_or, length, sym, ◌∙◌, ap, arith, subst}
use Rattle.std.proofs.lemmas.Option.{slice_get-get_or}
use Rattle.afdx_units.specs.Time.{is_before}
use Rattle.afdx_network.specs.declared.fault.NetworkRunFault.TheVariants as fault
use Rattle.afdx_network.specs.Given.{IsWireFault}
use Rattle.afdx_network.specs.Inner.Sites.{Site, AreEarly}
use Rattle.afdx_network.proofs.Answering.{of_error, match_error}
use Rattle.afdx_network.proofs.Noting.{noted_both}
use Rattle.afdx_network.proofs.Rounds.{OnWindow, window_begins, window_goes_on, window_passes, all_gone, still_going}
use Rattle.afdx_network.proofs.windows.window.Goals as goal
use Rattle.afdx_network.proofs.windows.window.Goals.{then-is_before+in_ok-visit, else-is_before}

pub loop-switch-init : goal.loop-switch-init
loop-switch-init c = record {
  on = window_begins c.args.network.now c.args.end c.args.sites.now c.requires.going c.requires.all c.requires.in_order;
  noted = λ keeps known. known;
}

pub visit-requires-clause-going : goal.visit-requires-clause-going
visit-requires-clause-going c = still_going c.args.end c.loop-switch.sites c.loop-switch.invariant.on.going

pub visit-requires-clause-in_order : goal.visit-requires-clause-in_order
visit-requires-clause-in_order c = λ i d lt. (c.loop-switch.invariant.on.going i d lt).1

pub loop-switch-preserved : goal.loop-switch-preserved
loop-switch-preserved c =
    let net = c.args.network.now in
    let end = c.args.end in
    let k = c.loop-switch.switch in
    let sites = c.loop-switch.sites in
    elim c.if-is_before.branch [
      | then-is_before+in_ok-visit w ↦
          let now = w.in_ok-visit.ensures in
          record {
            on = subst (OnWindow net end c.args.sites.now (k + 1)) (sym w.sites-is)
                (window_goes_on net end c.args.sites.now k sites w.visit.new.sites c.loop-switch.invariant.on
                (ap (λ (xs : List Site). length xs) (sym w.sites-is) ∙ c.if-is_before.auto.sites) (record {
                  going = now.going;
                  gone = now.gone;
                  ok = now.ok;
                  early = now.early;
                }));
            noted = λ keeps known. noted_both net keeps w.visit.new.origins _ w.visit.new.sites _ w.origins-is w.sites-is
                (now.noted keeps (c.loop-switch.invariant.noted keeps known));
          }
      | else-is_before w ↦
          record {
            on = subst (OnWindow net end c.args.sites.now (k + 1)) (sym w.sites-is)
                (window_passes c.out_goes_on.ensures net end c.args.sites.now k sites (get_or sites k c.index-sites-switch.result) c.loop-switch.invariant.on
                (slice_get-get_or sites k c.index-sites-switch.result (let same = c.loop-switch.auto.sites in let lt = c.loop-switch-test.true in omega (arith, same, lt)))
                (sym (c.is_before.ensures ∙ ap (is_before end) c.next.ensures) ∙ w.if-is_before.false));
            noted = λ keeps known. noted_both net keeps c.loop-switch.origins _ sites _ w.origins-is w.sites-is
                (c.loop-switch.invariant.noted keeps known);
          }
    ]

pub returns-clause-going : goal.returns-clause-going
returns-clause-going c = c.loop-switch.invariant.on.going

pub returns-clause-gone : goal.returns-clause-gone
returns-clause-gone c = c.loop-switch.invariant.on.gone

pub returns-clause-ok : goal.returns-clause-ok
returns-clause-ok c = λ given begin le w from.
    let is = c.loop-switch.invariant.on.ok given begin le w from in
    let past = c.loop-switch-test.false in
    let same = c.loop-switch.auto.sites in
    (is.0, all_gone begin c.args.end c.loop-switch.switch c.loop-switch.sites (omega (arith, past, same)) is.1)

pub returns-clause-early : goal.returns-clause-early
returns-clause-early c = λ given begin le w none accepted early. c.loop-switch.invariant.on.early given begin le w none accepted early

pub returns-in_err-visit-clause-err : goal.returns-in_err-visit-clause-err
returns-in_err-visit-clause-err c = λ given begin le w.
    of_error (IsWireFault c.args.network.now) c.from_residual.result c.in_err-visit.field-0.0 c.from_residual.ensures
    (c.in_err-visit.ensures.err given begin le (c.loop-switch.invariant.on.inside given begin le w))

pub returns-in_err-visit-clause-early : goal.returns-in_err-visit-clause-early
returns-in_err-visit-clause-early c = λ given begin le w none accepted early.
    match_error (λ _. AreEarly none.order.place c.visit.new.sites) (λ why. why ≡ fault.Memory) c.from_residual.result c.in_err-visit.field-0.0 c.from_residual.ensures
    (c.in_err-visit.ensures.early given begin le (c.loop-switch.invariant.on.inside given begin le w) none accepted (c.loop-switch.invariant.on.early given begin le w none accepted early))

pub returns-clause-noted : goal.returns-clause-noted
returns-clause-noted c = λ keeps known. c.loop-switch.invariant.noted keeps known
