use Rattle.afdx_grouping.proofs.Turning.{bursts_least, none_more}
use Rattle.afdx_grouping.proofs.laws.bursts_are_least.Goals as goal

pub returns-clause-least : goal.returns-clause-least
returns-clause-least c = bursts_least c.turns_are_enough.ensures.bursts

pub returns-clause-most : goal.returns-clause-most
returns-clause-most c = none_more
