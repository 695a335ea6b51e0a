use Rattle.afdx_table.proofs.LinkLemmas.{links_are_at_their_places}
use Rattle.afdx_table.proofs.laws.links_are_at_their_places.Goals as goal

pub returns : goal.returns
returns c = links_are_at_their_places
