use Rattle.std.proofs.Common.{[]}
use Rattle.afdx_port.proofs.Shifted.{events_later, admitted_later}
use Rattle.afdx_port.proofs.laws.latency_moves_events.Goals as goal

pub returns-clause-admission : goal.returns-clause-admission
returns-clause-admission c = λ s feed within. admitted_later s within [] feed

pub returns-clause-service : goal.returns-clause-service
returns-clause-service c = λ s items within. events_later s within items
