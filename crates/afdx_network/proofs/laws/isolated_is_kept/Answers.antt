use Rattle.afdx_network.proofs.Weaker.{isolated_kept}
use Rattle.afdx_network.proofs.laws.isolated_is_kept.Goals as goal

pub returns : goal.returns
returns c = isolated_kept c.nothing_is_scattered.ensures
