use Rattle.std.proofs.Common.{◌≡◌, take}
use Rattle.std.specs.List.{sum_by}
use Rattle.afdx_count.specs.Counting.{capped}
use Rattle.afdx_verdict.specs.Verdict.{lost_at}
use Rattle.afdx_verdict.proofs.summed.all_lost.Given as goal

abbrev pub invariant-loop-port : goal.invariant-loop-port
invariant-loop-port l = l.copies ≡ capped (sum_by lost_at (take l.port-index l.ports))
