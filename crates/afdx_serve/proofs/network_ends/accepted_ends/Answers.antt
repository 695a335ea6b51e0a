use Rattle.afdx_serve.proofs.NetworkMeasureLemmas.{accepted_ends}
use Rattle.afdx_serve.proofs.network_ends.accepted_ends.Goals as goal

pub returns : goal.returns
returns c = accepted_ends c.args.cleared.now c.in_ok-ways.ways.items c.ends_of_ways.result c.in_ok-ways.ensures (rw c.deref.ensures.value at c.ends_of_ways.ensures)
