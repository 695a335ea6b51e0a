use Rattle.afdx_network_check.proofs.Outages.{ways_up}
use Rattle.afdx_network_check.proofs.laws.outages_change_no_way.Goals as goal

pub returns : goal.returns
returns c = λ net ways are. ways_up net ways are
