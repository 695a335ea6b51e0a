use Rattle.afdx_network.specs.declared.fault.NetworkRunFault.TheVariants as fault
use Rattle.afdx_network.specs.Given.{IsFaultOver, IsUncheckedRefusal}
use Rattle.afdx_network.proofs.AllLeft.{are_formed}
use Rattle.afdx_network.proofs.Answered.{answered}
use Rattle.afdx_network.proofs.Answering.{of_error}
use Rattle.afdx_network.proofs.running.run_unchecked.Goals as goal

pub returns-in_err-sites-clause-err : goal.returns-in_err-sites-clause-err
returns-in_err-sites-clause-err g c =
    of_error (IsFaultOver g.R.Read.remaining c.args.network.now c.args.readers.now (IsUncheckedRefusal c.args.network.now)) c.from_residual.result c.in_err-sites.field-0.0 c.from_residual.ensures
    c.in_err-sites.ensures.err

pub counts_of-requires-clause-going : goal.counts_of-requires-clause-going
counts_of-requires-clause-going g c = c.in_ok-sites.ensures.ok.going

pub counts_of-requires-clause-files : goal.counts_of-requires-clause-files
counts_of-requires-clause-files g c = c.in_ok-sites.ensures.ok.files

pub returns-in_err-counts_of-clause-err : goal.returns-in_err-counts_of-clause-err
returns-in_err-counts_of-clause-err g c =
    of_error (IsFaultOver g.R.Read.remaining c.args.network.now c.args.readers.now (IsUncheckedRefusal c.args.network.now)) c.from_residual-in_err-counts_of.result fault.Memory
    c.from_residual-in_err-counts_of.ensures tt

pub returns-clause-ok : goal.returns-clause-ok
returns-clause-ok g c =
    let net = c.args.network.now in
    let over = c.in_ok-sites.ensures.ok in
    let counted = c.in_ok-counts_of.ensures in
    let a = answered c.out_goes_on.ensures c.out_is_in_order.ensures c.what_is_written_is_a_capture.ensures g.R.Read.remaining g.F.NewFile.contents net c.args.readers.now c.args.files.now
    c.run_through.new.files c.counts_of.new.files c.in_ok-sites.sites.items c.in_ok-counts_of.field-0.items over counted.counts (counted.gone c.args.files.now over.gone) in
    (a.given, a.came, a.left, a.given_by, a.run, a.put)

pub returns-clause-formed : goal.returns-clause-formed
returns-clause-formed g c =
    let over = c.in_ok-sites.ensures.ok in
    are_formed c.args.network.now over.given c.in_ok-sites.sites.items over.carried
