use Rattle.afdx_grouping.proofs.Scatter.{less_accepted}
use Rattle.afdx_grouping.proofs.laws.less_scatter_is_accepted.Goals as goal

pub returns : goal.returns
returns c = less_accepted
