use Rattle.std.proofs.Common.{◌≡◌, length}
use Rattle.afdx_compare.proofs.Taking.{IsTaking}
use Rattle.afdx_compare.proofs.findings.take_settled.Given as goal

abbrev pub invariant-loop-held : goal.invariant-loop-held
invariant-loop-held g l = record {
  taking : IsTaking l.recordings l.sources.captures l.initial.held.greatest l.initial.held.records.items l.held.records.items l.initial.comparison l.comparison;
  greatest : l.held.greatest ≡ l.initial.held.greatest;
}

abbrev pub decreases-loop-held : goal.decreases-loop-held
decreases-loop-held g l = length l.held.records.items
