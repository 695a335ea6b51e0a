use Rattle.afdx_core.proofs.MergeLemmas.{merged_is_a_merge}
use Rattle.afdx_core.proofs.laws.merged_is_a_merge.Goals as goal

pub returns : goal.returns
returns c = merged_is_a_merge
