use Rattle.afdx_compare_laws.proofs.Foreign.{kept_is_not_foreign}
use Rattle.afdx_compare_laws.proofs.laws.kept_is_not_foreign.Goals as goal

pub returns : goal.returns
returns c = kept_is_not_foreign c.links_are_found.ensures c.links_are_at_their_places.ensures c.ports_are_found.ensures
