use Rattle.afdx_network.proofs.Lengths.{ways_are_short}
use Rattle.afdx_network.proofs.laws.ways_are_short.Goals as goal

pub returns : goal.returns
returns c = λ net r backs formed among way. ways_are_short c.links_are_found.ensures net c.rows_are_of_tables.ensures r backs formed among way
