use Rattle.afdx_isolation.proofs.Leaving.{others_nothing}
use Rattle.afdx_isolation.proofs.laws.others_change_nothing.Goals as goal

pub returns : goal.returns
returns c = others_nothing c.ground.ensures
