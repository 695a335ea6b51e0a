use Rattle.afdx_port.proofs.Gone.{occupied_is_not_gone, sent_end_in_order, aged_in_order}
use Rattle.afdx_port.proofs.laws.occupied_is_what_has_not_gone.Goals as goal

pub returns-clause-bytes : goal.returns-clause-bytes
returns-clause-bytes c = occupied_is_not_gone

pub returns-clause-sent : goal.returns-clause-sent
returns-clause-sent c = sent_end_in_order

pub returns-clause-aged : goal.returns-clause-aged
returns-clause-aged c = aged_in_order
