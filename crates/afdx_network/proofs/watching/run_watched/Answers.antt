use Rattle.std.proofs.Common.{◌≡◌, List, Some, length, ◌∙◌, ap, arith}
use Rattle.afdx_wiring.specs.declared.layout.End.{End}
use Rattle.afdx_measure.specs.Wanted.{keeps_lists}
use Rattle.afdx_network.specs.declared.fault.NetworkRunFault.TheVariants as fault
use Rattle.afdx_network.specs.Given.{IsFaultOver, IsUncheckedRefusal}
use Rattle.afdx_network.proofs.Answering.{of_error}
use Rattle.afdx_network.proofs.WatchedRuns.{watched_run, have_sent, are_kept}
use Rattle.afdx_network.proofs.watching.run_watched.Goals as goal

pub returns-in_err-ends-clause-err : goal.returns-in_err-ends-clause-err
returns-in_err-ends-clause-err g c =
    of_error (IsFaultOver g.R.Read.remaining c.args.network.now c.args.readers.now (IsUncheckedRefusal c.args.network.now))
    c.from_residual.result fault.Memory c.from_residual.ensures tt

pub returns-in_err-files-clause-err : goal.returns-in_err-files-clause-err
returns-in_err-files-clause-err g c =
    of_error (IsFaultOver g.R.Read.remaining c.args.network.now c.args.readers.now (IsUncheckedRefusal c.args.network.now))
    c.from_residual-in_err-files.result fault.Memory c.from_residual-in_err-files.ensures tt

pub returns-in_err-new-clause-err : goal.returns-in_err-new-clause-err
returns-in_err-new-clause-err g c =
    of_error (IsFaultOver g.R.Read.remaining c.args.network.now c.args.readers.now (IsUncheckedRefusal c.args.network.now))
    c.from_residual-in_err-new.result fault.Memory c.from_residual-in_err-new.ensures tt

pub run_through-requires-clause-files : goal.run_through-requires-clause-files
run_through-requires-clause-files g c =
    let put : length c.deref_mut.result.now ≡ c.len.result = ap (λ (files : List _). length files) c.deref_mut.ensures.value ∙ c.in_ok-files.ensures in
    let many = c.len.ensures in
    let long = c.in_ok-ends.ends.ok.0 in
    let all = ap (λ (es : List End). length es) c.in_ok-ends.ensures in
    omega (arith, put, many, long, all)

pub returns-in_err-sites-clause-err : goal.returns-in_err-sites-clause-err
returns-in_err-sites-clause-err g c =
    of_error (IsFaultOver g.R.Read.remaining c.args.network.now c.args.readers.now (IsUncheckedRefusal c.args.network.now))
    c.from_residual-in_err-sites.result c.in_err-sites.field-0.0
    c.from_residual-in_err-sites.ensures c.in_err-sites.ensures.err

pub measured_of-requires : goal.measured_of-requires
measured_of-requires g c = c.in_ok-sites.ensures.ok.going

pub returns-in_err-switches-clause-err : goal.returns-in_err-switches-clause-err
returns-in_err-switches-clause-err g c =
    of_error (IsFaultOver g.R.Read.remaining c.args.network.now c.args.readers.now (IsUncheckedRefusal c.args.network.now))
    c.from_residual-in_err-switches.result fault.Memory c.from_residual-in_err-switches.ensures tt

pub returns-in_default-clause-err : goal.returns-in_default-clause-err
returns-in_default-clause-err g c = tt

pub returns-clause-ok : goal.returns-clause-ok
returns-clause-ok g c =
    let net = c.args.network.now in
    let over = c.in_ok-sites.ensures.ok in
    let sites = c.in_ok-sites.sites.items in
    let switches = c.in_ok-switches.switches.items in
    let ended = c.in_ok-switches.ensures in
    let whole = watched_run c.out_goes_on.ensures c.out_is_in_order.ensures c.what_is_written_is_a_capture.ensures
    net over.given sites switches over.carried over.lines over.one_each over.sent ended in
    let noted = c.in_ok-sites.ensures.noted (ap Some c.in_ok-new.ensures) in (
      over.given,
      whole.0,
      whole.1.0,
      over.given_by,
      whole.1.1,
      whole.1.2,
      have_sent c.sends_go_on.ensures net (keeps_lists c.args.wanted) over.given sites switches c.in-Some.origins over.carried over.sent ended (rw c.in-Some.is at noted),
    )

pub returns-clause-keeps : goal.returns-clause-keeps
returns-clause-keeps g c =
    let noted = c.in_ok-sites.ensures.noted (ap Some c.in_ok-new.ensures) in
    are_kept c.args.network.now (keeps_lists c.args.wanted) c.in_ok-sites.sites.items c.in_ok-switches.switches.items c.in-Some.origins c.in_ok-switches.ensures (rw c.in-Some.is at noted)
