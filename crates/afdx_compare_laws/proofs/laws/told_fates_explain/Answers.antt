use Rattle.afdx_compare_laws.proofs.Fates.{told_fates_explain}
use Rattle.afdx_compare_laws.proofs.laws.told_fates_explain.Goals as goal

pub returns : goal.returns
returns c = told_fates_explain c.told_is_allowed.ensures.each c.at_rest_is_the_account.ensures.fates
