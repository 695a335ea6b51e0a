use Rattle.afdx_paced.proofs.InOrder.{out_is_in_order}
use Rattle.afdx_paced.proofs.laws.out_is_in_order.Goals as goal

pub returns : goal.returns
returns c = out_is_in_order c.ends_do_not_fall.ensures
