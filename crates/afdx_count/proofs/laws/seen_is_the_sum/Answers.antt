use Rattle.afdx_count.proofs.Sums.{seen_is_the_sum}
use Rattle.afdx_count.proofs.laws.seen_is_the_sum.Goals as goal

pub returns : goal.returns
returns c = seen_is_the_sum
