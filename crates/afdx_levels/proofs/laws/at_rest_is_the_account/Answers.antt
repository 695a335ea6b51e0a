use Rattle.std.proofs.Common.{◌∙◌}
use Rattle.afdx_levels.proofs.Known.{at_rest_is_the_account, chosen_stepped}
use Rattle.afdx_levels.proofs.laws.at_rest_is_the_account.Goals as goal

pub returns-clause-fates : goal.returns-clause-fates
returns-clause-fates c = at_rest_is_the_account

pub returns-clause-passed : goal.returns-clause-passed
returns-clause-passed c = λ t frames order. chosen_stepped t t.cap 0 frames ∙ c.steps_pass_what_conforms.ensures t frames order
