use Rattle.afdx_load.proofs.ShareLemmas.{rate_above}
use Rattle.afdx_load.proofs.laws.each_link_asks.Goals as goal

pub returns : goal.returns
returns c = rate_above
