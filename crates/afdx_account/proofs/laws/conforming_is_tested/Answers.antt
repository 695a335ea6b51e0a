use Rattle.afdx_account.proofs.Tested.{conforming_is_tested}
use Rattle.afdx_account.proofs.laws.conforming_is_tested.Goals as goal

pub returns : goal.returns
returns c = conforming_is_tested
