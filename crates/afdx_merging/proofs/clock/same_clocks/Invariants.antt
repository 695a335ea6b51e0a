use Rattle.std.proofs.Common.{◌≡◌, map, take}
use Rattle.afdx_merging.specs.Merge.{same_clock}
use Rattle.afdx_merging.proofs.clock.same_clocks.Given as goal

-- one clock for each port so far
abbrev pub invariant-loop-port : goal.invariant-loop-port
invariant-loop-port g l = l.clocks.items ≡ map (λ p. same_clock) (take l._port-index l.ports)
