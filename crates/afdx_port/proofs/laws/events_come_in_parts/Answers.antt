use Rattle.afdx_port.proofs.Steps.{sent_of-append, aged_of-append}
use Rattle.afdx_port.proofs.laws.events_come_in_parts.Goals as goal

pub returns-clause-sent : goal.returns-clause-sent
returns-clause-sent c = sent_of-append

pub returns-clause-aged : goal.returns-clause-aged
returns-clause-aged c = aged_of-append
