use Rattle.afdx_serve.proofs.NetworkRunLemmas.{ran_unchecked, ran_accepted, fault_accepted}
use Rattle.afdx_serve.proofs.network_run.counts_of.Goals as goal

pub returns-in-Unchecked-clause-ok : goal.returns-in-Unchecked-clause-ok
returns-in-Unchecked-clause-ok g c =
    ran_unchecked g.R.Read.remaining g.N.NewFile.contents c.args.readers.now c.args.files.now c.run_unchecked.new.files c.in-Unchecked.network
    c.args.plan.now c.run_unchecked.result c.in-Unchecked.is
    c.run_unchecked.ensures.ok

pub returns-in-Accepted-clause-ok : goal.returns-in-Accepted-clause-ok
returns-in-Accepted-clause-ok g c =
    ran_accepted g.R.Read.remaining g.N.NewFile.contents c.args.readers.now c.args.files.now c.run.new.files c.runs_are_unchecked.ensures
    c.in-Accepted.cleared c.args.plan.now c.run.result c.in-Accepted.is
    c.run.ensures.ok

pub returns-in-Accepted-clause-err : goal.returns-in-Accepted-clause-err
returns-in-Accepted-clause-err g c =
    fault_accepted g.R.Read.remaining c.in-Accepted.cleared c.args.plan.now c.args.readers.now c.run.result c.in-Accepted.is c.run.ensures.err
