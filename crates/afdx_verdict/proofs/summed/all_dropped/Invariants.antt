use Rattle.std.proofs.Common.{◌≡◌, take}
use Rattle.std.specs.List.{sum_by}
use Rattle.afdx_count.specs.declared.ports.PortTally.{PortTally}
use Rattle.afdx_count.specs.Counting.{capped}
use Rattle.afdx_verdict.specs.Verdict.{dropped}
use Rattle.afdx_verdict.proofs.summed.all_dropped.Given as goal

abbrev pub invariant-loop-port : goal.invariant-loop-port
invariant-loop-port l = l.frames ≡ capped (sum_by (λ (p : PortTally). dropped p.input) (take l.port-index l.ports))
