use Rattle.afdx_table.proofs.LinksFound.{links_are_found}
use Rattle.afdx_table.proofs.laws.links_are_found.Goals as goal

pub returns : goal.returns
returns c = links_are_found
