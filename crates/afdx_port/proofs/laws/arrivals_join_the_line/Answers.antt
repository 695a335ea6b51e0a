use Rattle.afdx_port.proofs.AtLine.{line_joined}
use Rattle.afdx_port.proofs.laws.arrivals_join_the_line.Goals as goal

pub returns : goal.returns
returns c = line_joined
