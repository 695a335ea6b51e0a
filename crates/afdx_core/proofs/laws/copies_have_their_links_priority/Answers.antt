use Rattle.afdx_core.proofs.Priorities.{have_their_priority}
use Rattle.afdx_core.proofs.laws.copies_have_their_links_priority.Goals as goal

pub returns : goal.returns
returns c = have_their_priority c.links_are_found.ensures c.service_is_of_items.ensures.sent
