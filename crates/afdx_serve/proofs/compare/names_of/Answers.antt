use Rattle.std.proofs.Common.{◌<◌, length, rules}
use Rattle.afdx_serve.proofs.CompareLemmas.{more_outputs}
use Rattle.afdx_serve.proofs.compare.names_of.Goals as goal

pub loop-port-preserved : goal.loop-port-preserved
loop-port-preserved c =
    let within : c.loop-port.port-index < length c.args.ports.now = search rules in
    more_outputs c.args.compare.now.output.now c.args.recorded.now c.args.ports.now c.loop-port.port-index _ _ _ _ within c.loop-port.invariant c.in_ok-push_output.ensures
