use Rattle.afdx_session.proofs.OneMerge.{the_only_one}
use Rattle.afdx_session.proofs.laws.merged_is_the_only_one.Goals as goal

pub returns : goal.returns
returns c = the_only_one c.merged_is_a_merge.ensures c.merged_is_by_stamp_and_port.ensures
