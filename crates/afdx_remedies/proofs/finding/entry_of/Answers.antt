use Rattle.std.proofs.Common.{Some, None}
use Rattle.afdx_remedies.specs.Entries.{entries}
use Rattle.afdx_remedies.proofs.EntryLemmas.{found}
use Rattle.afdx_remedies.proofs.finding.entry_of.Goals as goal

pub returns-in-Some : goal.returns-in-Some
returns-in-Some c =
    found c.entries.result.now (Some c.in-Some.pair.now) (λ pair. pair.0.now) (λ pair. pair.1.now) c.args.code.now entries c.in-Some.ensures c.entries.ensures

pub returns-in-None : goal.returns-in-None
returns-in-None c = found c.entries.result.now None (λ pair. pair.0.now) (λ pair. pair.1.now) c.args.code.now entries c.in-None.ensures c.entries.ensures
