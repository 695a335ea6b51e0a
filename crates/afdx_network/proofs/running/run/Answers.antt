use Rattle.afdx_network.specs.Given.{AreGivenBy}
use Rattle.afdx_network.specs.Written.{AreWritten}
use Rattle.afdx_network.proofs.Rest.{isolates}
use Rattle.afdx_network.proofs.Refusing.{accepted_refuses}
use Rattle.afdx_network.proofs.running.run.Goals as goal

pub returns-clause-ok : goal.returns-clause-ok
returns-clause-ok g c =
    let led = rw c.network.ensures.network at c.run_unchecked.ensures.ok in
    let formed = rw c.network.ensures.network at c.run_unchecked.ensures.formed in
    isolates c.run_unchecked.result (λ given. AreGivenBy g.R.Read.remaining c.args.network.now c.args.readers.now given)
    (λ left counts. AreWritten g.F.NewFile.contents left c.args.files.now c.run_unchecked.new.files counts.items) c.outcomes_isolate.ensures.plain c.args.network.now
    c.network.ensures.accepted led formed

pub returns-clause-err : goal.returns-clause-err
returns-clause-err g c =
    let refused = rw c.network.ensures.network at c.run_unchecked.ensures.err in
    accepted_refuses c.run_unchecked.result g.R.Read.remaining c.args.network.now c.args.readers.now c.network.ensures.accepted refused
