use Rattle.afdx_paced.proofs.Sending.{sends_go_on}
use Rattle.afdx_paced.proofs.laws.sends_go_on.Goals as goal

pub returns : goal.returns
returns c = sends_go_on c.sent_goes_on.ensures c.stamps_keep_their_order.ensures.instants
