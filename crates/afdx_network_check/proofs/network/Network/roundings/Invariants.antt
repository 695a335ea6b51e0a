use Rattle.std.proofs.Common.{◌≡◌, ◌<◌, ℕ, length}
use Rattle.afdx_grouping.specs.Lined.{rounding_in}
use Rattle.afdx_network_check.specs.Net.{rounding_at}
use Rattle.afdx_network_check.proofs.network.Network.roundings.Given as goal

abbrev pub invariant-loop-port : goal.invariant-loop-port
invariant-loop-port l = record {
  long : length l.roundings ≡ 25;
  known : (port : ℕ) → port < l.port → rounding_in l.roundings port ≡ rounding_at l.self l.switch port;
}
