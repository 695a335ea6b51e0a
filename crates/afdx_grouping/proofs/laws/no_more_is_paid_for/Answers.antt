use Rattle.afdx_grouping.proofs.Partition.{paid_once}
use Rattle.afdx_grouping.proofs.laws.no_more_is_paid_for.Goals as goal

pub returns : goal.returns
returns c = paid_once
