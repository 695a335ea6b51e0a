use Rattle.afdx_core.proofs.Joining.{joins, stays_out}
use Rattle.afdx_core.proofs.laws.arrivals_join.Goals as goal

pub returns : goal.returns
returns c = record {
  offered = joins c.feeds_are_admitted_in_parts.ensures c.admitted_fit_in_order.ensures.order c.stamps_keep_their_order.ensures.items c.occupied_is_what_has_not_gone.ensures.bytes;
  others = stays_out c.feeds_are_admitted_in_parts.ensures;
}
