use Rattle.std.proofs.Common.{◌≡◌, length}
use Rattle.afdx_compare.specs.Arrivals.{with_arrivals}
use Rattle.afdx_compare.proofs.Taking.{MayGoOn}
use Rattle.afdx_compare.proofs.findings.take_all.Given as goal

abbrev pub invariant-loop-arrival : goal.invariant-loop-arrival
invariant-loop-arrival g l = record {
  told : with_arrivals l.sources.captures l.initial.held.items l.initial.comparison ≡ with_arrivals l.sources.captures l.held.items l.comparison;
  may : MayGoOn l.sources.captures l.held.items l.comparison;
}

abbrev pub decreases-loop-arrival : goal.decreases-loop-arrival
decreases-loop-arrival g l = length l.held.items
