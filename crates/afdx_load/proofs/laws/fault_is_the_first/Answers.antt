use Rattle.afdx_load.proofs.FirstLemmas.{fault_is_first}
use Rattle.afdx_load.proofs.laws.fault_is_the_first.Goals as goal

pub returns : goal.returns
returns c = fault_is_first
