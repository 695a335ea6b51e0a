use Rattle.afdx_network.proofs.WatchedEnds.{delays_are_one}
use Rattle.afdx_network.proofs.laws.delays_are_one.Goals as goal

pub returns : goal.returns
returns c = delays_are_one c.links_are_found.ensures c.origin_is_one.ensures c.copies_end_apart.ensures
