use Rattle.afdx_port.proofs.InLine.{turns}
use Rattle.afdx_port.proofs.laws.high_goes_first.Goals as goal

pub returns : goal.returns
returns c = turns
