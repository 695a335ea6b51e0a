use Rattle.std.proofs.Common.{rules, ◌≡◌, ◌<◌, ◌∙◌, length, length-set, arith}
use Rattle.afdx_network_check.specs.Net.{rounding_at}
use Rattle.afdx_network_check.proofs.Loaded.{one_more}
use Rattle.afdx_network_check.proofs.network.Network.roundings.Goals as goal

pub loop-port-preserved : goal.loop-port-preserved
loop-port-preserved c =
    let long = c.loop-port.invariant.long in
    let test = c.loop-port-test.true in
    let within : c.loop-port.port < length c.loop-port.roundings = omega (arith, long, test) in
    let is : c.rounding_at.result ≡ rounding_at c.args.self.now c.args.switch c.loop-port.port = search rules in
    record {
      long = length-set _ _ _ ∙ c.loop-port.invariant.long;
      known = one_more (rounding_at c.args.self.now c.args.switch) c.loop-port.roundings c.loop-port.port c.rounding_at.result within is c.loop-port.invariant.known;
    }
