use Rattle.afdx_grouping.proofs.Adding.{same_group}
use Rattle.afdx_grouping.proofs.group.Group.none.Goals as goal

pub returns : goal.returns
returns c = λ here. same_group _ _ _ _ (c.none.ensures here) (c.none-2.ensures here)
