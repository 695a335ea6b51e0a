use Rattle.afdx_load.proofs.LawLemmas.{shows_links}
use Rattle.afdx_load.proofs.laws.longest_shows_links.Goals as goal

pub returns : goal.returns
returns c = shows_links
