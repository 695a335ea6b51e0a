use Rattle.afdx_paced.proofs.Growing.{out_goes_on}
use Rattle.afdx_paced.proofs.laws.out_goes_on.Goals as goal

pub returns : goal.returns
returns c = out_goes_on c.sent_goes_on.ensures c.stamps_keep_their_order.ensures.instants
