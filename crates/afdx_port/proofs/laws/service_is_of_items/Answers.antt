use Rattle.afdx_port.proofs.AtLine.{waiting_of_items, events_of_items, sent_of_items}
use Rattle.afdx_port.proofs.laws.service_is_of_items.Goals as goal

pub returns-clause-waiting : goal.returns-clause-waiting
returns-clause-waiting c = waiting_of_items

pub returns-clause-events : goal.returns-clause-events
returns-clause-events c = events_of_items

pub returns-clause-sent : goal.returns-clause-sent
returns-clause-sent c = sent_of_items
