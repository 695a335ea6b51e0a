use Rattle.afdx_core.proofs.MergeLemmas.{merged_is_by_stamp_and_port}
use Rattle.afdx_core.proofs.laws.merged_is_by_stamp_and_port.Goals as goal

pub returns : goal.returns
returns c = merged_is_by_stamp_and_port
