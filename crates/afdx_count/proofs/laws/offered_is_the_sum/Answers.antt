use Rattle.afdx_count.proofs.Sums.{offered_is_the_sum}
use Rattle.afdx_count.proofs.laws.offered_is_the_sum.Goals as goal

pub returns : goal.returns
returns c = offered_is_the_sum c.each_has_one_event.ensures c.feeds_are_admitted_in_parts.ensures
