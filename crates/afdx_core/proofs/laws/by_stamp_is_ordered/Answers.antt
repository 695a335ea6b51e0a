use Rattle.afdx_core.proofs.MergeLemmas.{by_stamp_is_ordered}
use Rattle.afdx_core.proofs.laws.by_stamp_is_ordered.Goals as goal

pub returns : goal.returns
returns c = by_stamp_is_ordered
