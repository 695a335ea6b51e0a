use Rattle.std.proofs.Common.{◌≡◌, take}
use Rattle.std.specs.Prelude.{nat_lt, count_by}
use Rattle.afdx_count.specs.declared.links.LinkTally.{LinkTally}
use Rattle.afdx_count.specs.Counting.{capped}
use Rattle.afdx_verdict.proofs.summed.policed_links.Given as goal

abbrev pub invariant-loop-link : goal.invariant-loop-link
invariant-loop-link l = l.policed ≡ capped (count_by (λ (k : LinkTally). nat_lt 0 k.count.policed) (take l.link-index l.links))
