use Rattle.afdx_isolation.proofs.Leaving.{isolated}
use Rattle.afdx_isolation.proofs.laws.isolates.Goals as goal

pub returns : goal.returns
returns c = isolated c.ground.ensures
