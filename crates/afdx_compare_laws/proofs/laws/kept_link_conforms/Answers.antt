use Rattle.afdx_compare_laws.proofs.Conforming.{kept_link_conforms}
use Rattle.afdx_compare_laws.proofs.laws.kept_link_conforms.Goals as goal

pub returns : goal.returns
returns c = kept_link_conforms c.told_is_allowed.ensures.each c.at_rest_is_the_account.ensures.fates
