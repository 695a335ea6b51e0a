use Rattle.afdx_isolation.proofs.Leaving.{isolated_so_far}
use Rattle.afdx_isolation.proofs.laws.isolates_so_far.Goals as goal

pub returns : goal.returns
returns c = isolated_so_far c.ground.ensures
