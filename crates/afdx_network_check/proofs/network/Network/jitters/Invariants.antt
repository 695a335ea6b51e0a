use Rattle.afdx_network_check.proofs.Least.{Turns}
use Rattle.afdx_network_check.proofs.network.Network.jitters.Given as goal

abbrev pub invariant-loop : goal.invariant-loop
invariant-loop l = Turns l.fn.self l.network
