use Rattle.afdx_port.proofs.Ends.{ends_in_order, ends_from_free}
use Rattle.afdx_port.proofs.laws.ends_do_not_fall.Goals as goal

pub returns : goal.returns
returns c = record { in_order = ends_in_order; from_free = ends_from_free }
