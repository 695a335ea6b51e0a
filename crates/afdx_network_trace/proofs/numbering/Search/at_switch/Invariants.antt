use Rattle.std.proofs.Common.{◌≡◌, ℕ, ◌<◌, length, get_or, Option}
use Rattle.afdx_network_trace.specs.First.{first_number}
use Rattle.afdx_network_trace.proofs.numbering.Search.at_switch.Given as goal

abbrev pub invariant-loop-number : goal.invariant-loop-number
invariant-loop-number l = record {
  many : length l.firsts.items ≡ l.number;
  each : (number : ℕ) (first : Option ℕ) → number < length l.firsts.items → get_or l.firsts.items number first ≡ first_number l.self.network.now l.self.dones.now l.switch number;
}
