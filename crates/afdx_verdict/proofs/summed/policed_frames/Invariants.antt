use Rattle.std.proofs.Common.{◌≡◌, take}
use Rattle.std.specs.List.{sum_by}
use Rattle.afdx_count.specs.declared.links.LinkTally.{LinkTally}
use Rattle.afdx_count.specs.Counting.{capped}
use Rattle.afdx_verdict.proofs.summed.policed_frames.Given as goal

abbrev pub invariant-loop-link : goal.invariant-loop-link
invariant-loop-link l = l.frames ≡ capped (sum_by (λ (k : LinkTally). k.count.policed) (take l.link-index l.links))
