use Rattle.afdx_port.proofs.Picked.{reach-le, in_order}
use Rattle.afdx_port.proofs.laws.stamps_keep_their_order.Goals as goal

pub returns-clause-instants : goal.returns-clause-instants
returns-clause-instants c = reach-le

pub returns-clause-items : goal.returns-clause-items
returns-clause-items c = in_order
