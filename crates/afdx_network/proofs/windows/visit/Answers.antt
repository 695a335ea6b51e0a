use Rattle.std.proofs.Common.{◌≡◌, ◌+◌, List, refl, sym, ◌∙◌, ap, get_or, get_or-set_same, length, arith, subst}
use Rattle.std.specs.Prelude.{slice_set}
use Rattle.std.proofs.lemmas.Option.{slice_get-get_or}
use Rattle.afdx_network.specs.declared.fault.NetworkRunFault.TheVariants as fault
use Rattle.afdx_network.specs.Given.{IsWireFault}
use Rattle.afdx_network.specs.Inner.Sites.{Site, AreEarly}
use Rattle.afdx_network.proofs.Answering.{of_error, match_error}
use Rattle.afdx_network.proofs.Noting.{noted_both, noted_went}
use Rattle.afdx_network.proofs.Rounds.{OnVisit, visit_begins, visit_goes_on, visit_passes, visit_ends, still_going, place_is}
use Rattle.afdx_network.proofs.windows.visit.Goals as goal
use Rattle.afdx_network.proofs.windows.visit.Goals.{in-Some+in_ok-drain, in_default}

pub go_to-requires-clause-going : goal.go_to-requires-clause-going
go_to-requires-clause-going c = c.requires.going c.args.switch c.index-sites-switch.result c.requires.within

pub go_to-requires-clause-in_order : goal.go_to-requires-clause-in_order
go_to-requires-clause-in_order c = c.requires.in_order c.args.switch c.index-sites-switch.result c.requires.within

pub loop-place-init : goal.loop-place-init
loop-place-init c =
    let old = c.args.sites.now in
    let d = c.index-sites-switch.result in
    let at = slice_get-get_or old c.args.switch d c.requires.within in
    record {
      on = visit_begins c.out_goes_on.ensures c.args.network.now c.args.end c.args.switch old (get_or old c.args.switch d) c.go_to.new.self c.requires.going c.requires.all c.requires.in_order at
          c.in_ok-go_to.ensures;
      noted = λ keeps known. noted_went c.sends_go_on.ensures c.args.network.now keeps c.args.origins.now old c.args.switch c.args.end (get_or old c.args.switch d) c.go_to.new.self at
          (c.requires.in_order c.args.switch d c.requires.within) c.in_ok-go_to.ensures known;
    }

pub loop-place-preserved : goal.loop-place-preserved
loop-place-preserved c =
    let net = c.args.network.now in
    let end = c.args.end in
    let switch = c.args.switch in
    let old = c.args.sites.now in
    let k = c.loop-place.place in
    let sites = c.loop-place.sites in
    let d = c.index-sites-switch-in-loop-place.result in
    let all = c.loop-place.invariant.on.all in
    let same = c.requires.all in
    let within = c.requires.within in
    let at = slice_get-get_or sites switch d (omega (arith, all, same, within)) in
    elim c.match-port.branch [
      | in-Some+in_ok-drain w ↦
          let now = w.in_ok-drain.ensures in
          record {
            on = subst (OnVisit net end switch old (slice_set old switch c.go_to.new.self) (k + 1)) (sym w.sites-is)
                (visit_goes_on net end switch w.in-Some.port old (slice_set old switch c.go_to.new.self) k sites w.drain.new.sites (get_or sites switch d) c.loop-place.invariant.on at
                (sym c.port.ensures ∙ w.in-Some.is) (ap (λ (xs : List Site). length xs) (sym w.sites-is) ∙ c.match-port.auto.sites)
                (record {
                  going = now.going;
                  gone = now.gone;
                  reached = now.reached;
                  ok = λ given begin le v. now.ok given begin end le v;
                  early = λ given begin le v none accepted early. now.early given begin end le v none accepted early;
                }));
            noted = λ keeps known. noted_both net keeps w.drain.new.origins _ w.drain.new.sites _ w.origins-is w.sites-is
                (now.noted keeps (c.loop-place.invariant.noted keeps known));
          }
      | in_default w ↦
          record {
            on = subst (OnVisit net end switch old (slice_set old switch c.go_to.new.self) (k + 1)) (sym w.sites-is)
                (visit_passes net end switch old (slice_set old switch c.go_to.new.self) k sites (get_or sites switch d) c.loop-place.invariant.on at (sym c.port.ensures ∙ w.in_default.is));
            noted = λ keeps known. noted_both net keeps c.loop-place.origins _ sites _ w.origins-is w.sites-is (c.loop-place.invariant.noted keeps known);
          }
    ]

pub drain-requires-clause-going : goal.drain-requires-clause-going
drain-requires-clause-going c = still_going c.args.end c.loop-place.sites c.loop-place.invariant.on.going

pub drain-requires-clause-place : goal.drain-requires-clause-place
drain-requires-clause-place c =
    let sites = c.loop-place.sites in
    let switch = c.args.switch in
    let d = c.index-sites-switch-in-loop-place.result in
    let all = c.loop-place.invariant.on.all in
    let same = c.requires.all in
    let within = c.requires.within in
    place_is sites (get_or sites switch d) switch c.in-Some.port c.loop-place.place (slice_get-get_or sites switch d (omega (arith, all, same, within))) (sym c.port.ensures ∙ c.in-Some.is)

pub returns-clause-going : goal.returns-clause-going
returns-clause-going c = c.loop-place.invariant.on.going

pub returns-clause-gone : goal.returns-clause-gone
returns-clause-gone c = c.loop-place.invariant.on.gone

pub returns-clause-ok : goal.returns-clause-ok
returns-clause-ok c =
    let old = c.args.sites.now in
    let switch = c.args.switch in
    let d = c.index-sites-switch.result in
    let new = c.go_to.new.self in
    let past = c.loop-place-test.false in
    let many = c.ports-place-end.ensures.left in
    let same = ap (λ (s : Site). length s.left) (get_or-set_same old switch new c.index-sites-switch-2.result c.requires.within) in
    visit_ends c.out_goes_on.ensures c.args.network.now c.args.end switch old (get_or old switch d) new c.loop-place.place c.loop-place.sites c.loop-place.invariant.on
    (slice_get-get_or old switch d c.requires.within) c.in_ok-go_to.ensures (omega (arith, past, many, same))

pub returns-clause-early : goal.returns-clause-early
returns-clause-early c = λ given begin le w none accepted early. c.loop-place.invariant.on.early given begin le w none accepted early

pub returns-in_err-go_to-clause-err : goal.returns-in_err-go_to-clause-err
returns-in_err-go_to-clause-err c = λ given begin le w. of_error (IsWireFault c.args.network.now) c.from_residual.result fault.Memory c.from_residual.ensures tt

pub returns-in_err-go_to-clause-early : goal.returns-in_err-go_to-clause-early
returns-in_err-go_to-clause-early c = λ given begin le w none accepted early.
    match_error (λ _. AreEarly none.order.place _) (λ why. why ≡ fault.Memory) c.from_residual.result fault.Memory c.from_residual.ensures refl

pub returns-in_err-drain-clause-err : goal.returns-in_err-drain-clause-err
returns-in_err-drain-clause-err c = λ given begin le w.
    of_error (IsWireFault c.args.network.now) c.from_residual-in_err-drain.result c.in_err-drain.field-0.0 c.from_residual-in_err-drain.ensures
    (c.in_err-drain.ensures.err given begin c.args.end le (c.loop-place.invariant.on.ok given begin le w).0)

pub returns-in_err-drain-clause-early : goal.returns-in_err-drain-clause-early
returns-in_err-drain-clause-early c = λ given begin le w none accepted early.
    match_error (λ _. AreEarly none.order.place c.drain.new.sites) (λ why. why ≡ fault.Memory) c.from_residual-in_err-drain.result c.in_err-drain.field-0.0 c.from_residual-in_err-drain.ensures
    (c.in_err-drain.ensures.early given begin c.args.end le (c.loop-place.invariant.on.ok given begin le w).0 none accepted (c.loop-place.invariant.on.early given begin le w none accepted early))

pub returns-clause-noted : goal.returns-clause-noted
returns-clause-noted c = λ keeps known. c.loop-place.invariant.noted keeps known
