use Rattle.afdx_jitter.proofs.Jitter.{crossing_is_a_hop}
use Rattle.afdx_jitter.proofs.laws.crossing_is_a_hop.Goals as goal

pub returns : goal.returns
returns c = crossing_is_a_hop
