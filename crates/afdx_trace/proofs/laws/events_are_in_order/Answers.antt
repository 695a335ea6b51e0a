use Rattle.afdx_trace.proofs.Ordered.{events_in_order}
use Rattle.afdx_trace.proofs.laws.events_are_in_order.Goals as goal

pub returns : goal.returns
returns c = events_in_order c.starts_in_time_are_sent.ensures.time
