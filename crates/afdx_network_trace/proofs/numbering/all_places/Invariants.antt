use Rattle.std.proofs.Common.{◌≡◌, ◌++◌, map, drop}
use Rattle.afdx_core.specs.State.{State}
use Rattle.afdx_network_trace.specs.First.{places_of}
use Rattle.afdx_network_trace.proofs.numbering.all_places.Given as goal

abbrev pub invariant-loop-done : goal.invariant-loop-done
invariant-loop-done l =
    map (λ (s : State). places_of s.run.rows) l.dones ≡ map (λ places. places.items) l.all.items ++ map (λ (s : State). places_of s.run.rows) (drop l.done-index l.dones)
