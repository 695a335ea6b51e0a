use Rattle.afdx_network_trace.specs.First.{first_number}
use Rattle.afdx_network_trace.proofs.numbering.Search.first_number.Goals as goal

pub returns : goal.returns
unfolding first_number
returns c = c.first_within.ensures
