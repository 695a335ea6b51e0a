use Rattle.afdx_grouping.proofs.LesserBounds.{curves_need_less}
use Rattle.afdx_grouping.proofs.laws.lesser_curves_need_less.Goals as goal

pub returns : goal.returns
returns c = curves_need_less c.turns_are_enough.ensures.bursts
