use Rattle.afdx_load.proofs.FaultLemmas.{fine_none, none_fine}
use Rattle.afdx_load.proofs.laws.carries_without_a_fault.Goals as goal

pub returns : goal.returns
returns c = λ row load. (fine_none row load, none_fine row load)
