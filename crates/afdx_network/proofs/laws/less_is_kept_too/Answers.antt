use Rattle.afdx_network.proofs.Weaker.{less_kept}
use Rattle.afdx_network.proofs.laws.less_is_kept_too.Goals as goal

pub returns : goal.returns
returns c = less_kept
