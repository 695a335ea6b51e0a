use Rattle.afdx_port.proofs.AtLine.{work_of_line}
use Rattle.afdx_port.proofs.laws.work_is_of_the_line.Goals as goal

pub returns : goal.returns
returns c = work_of_line
