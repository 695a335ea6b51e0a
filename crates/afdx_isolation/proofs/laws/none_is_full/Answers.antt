use Rattle.afdx_isolation.proofs.Offered.{none_full}
use Rattle.afdx_isolation.proofs.laws.none_is_full.Goals as goal

pub returns : goal.returns
returns c = λ s flows arrivals arrive rate buffer. none_full c.ground.ensures s flows arrivals arrive rate buffer
