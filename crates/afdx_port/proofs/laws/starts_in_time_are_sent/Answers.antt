use Rattle.afdx_port.proofs.Room.{cost-positive}
use Rattle.afdx_port.proofs.Steps.{fate_sent}
use Rattle.afdx_port.proofs.laws.starts_in_time_are_sent.Goals as goal

pub returns-clause-sent : goal.returns-clause-sent
returns-clause-sent c = fate_sent

pub returns-clause-time : goal.returns-clause-time
returns-clause-time c = cost-positive
