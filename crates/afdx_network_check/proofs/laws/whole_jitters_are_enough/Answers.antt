use Rattle.afdx_network_check.proofs.Staying.{whole_jitters}
use Rattle.afdx_network_check.proofs.laws.whole_jitters_are_enough.Goals as goal

pub returns : goal.returns
returns c = whole_jitters c.bounds_are_no_more.ensures
