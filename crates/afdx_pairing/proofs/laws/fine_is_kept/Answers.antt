use Rattle.afdx_pairing.proofs.Keeping.{fine_is_kept}
use Rattle.afdx_pairing.proofs.laws.fine_is_kept.Goals as goal

pub returns : goal.returns
returns c = fine_is_kept
