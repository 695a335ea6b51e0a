use Rattle.afdx_grouping.proofs.LesserBounds.{less_scatter}
use Rattle.afdx_grouping.proofs.laws.less_scatter_bounds_no_more.Goals as goal

pub returns : goal.returns
returns c = less_scatter c.turns_are_enough.ensures.bursts
