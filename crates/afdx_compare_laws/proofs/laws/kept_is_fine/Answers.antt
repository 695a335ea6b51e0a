use Rattle.afdx_compare_laws.proofs.Fine.{kept_is_fine}
use Rattle.afdx_compare_laws.proofs.laws.kept_is_fine.Goals as goal

pub returns : goal.returns
returns c = kept_is_fine
