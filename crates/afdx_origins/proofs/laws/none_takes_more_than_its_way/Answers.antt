use Rattle.afdx_origins.proofs.Bounded.{none_takes_more}
use Rattle.afdx_origins.proofs.laws.none_takes_more_than_its_way.Goals as goal

pub returns : goal.returns
returns c = none_takes_more c.links_are_found.ensures c.range_is_of_delays.ensures
