use Rattle.afdx_grouping.proofs.LesserBounds.{bounds_no_more}
use Rattle.afdx_grouping.proofs.laws.bounds_are_no_more.Goals as goal

pub returns : goal.returns
returns c = bounds_no_more
