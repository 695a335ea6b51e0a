use Rattle.afdx_serial.proofs.Chain.{exact, later}
use Rattle.afdx_serial.proofs.laws.cables_keep_to_the_line.Goals as goal

pub returns-clause-cable : goal.returns-clause-cable
returns-clause-cable c = later

pub returns-clause-exact : goal.returns-clause-exact
returns-clause-exact c = exact
