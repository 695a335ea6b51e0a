use Rattle.afdx_trace.proofs.Refused.{full_is_exact}
use Rattle.afdx_trace.proofs.laws.full_is_exact.Goals as goal

pub returns : goal.returns
returns c = full_is_exact c.each_has_one_event.ensures c.feeds_are_admitted_in_parts.ensures
