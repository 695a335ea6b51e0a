use Rattle.afdx_filter.proofs.CleanFrames.{clean-exactly}
use Rattle.afdx_filter.proofs.laws.clean_exactly.Goals as goal

pub returns : goal.returns
returns c = clean-exactly
