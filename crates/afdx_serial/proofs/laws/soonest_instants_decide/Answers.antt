use Rattle.afdx_serial.proofs.Soonest.{soonest_decide}
use Rattle.afdx_serial.proofs.laws.soonest_instants_decide.Goals as goal

pub returns : goal.returns
returns c = soonest_decide
