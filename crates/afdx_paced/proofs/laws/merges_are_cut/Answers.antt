use Rattle.afdx_paced.proofs.Cut.{merges_are_cut}
use Rattle.afdx_paced.proofs.laws.merges_are_cut.Goals as goal

pub returns : goal.returns
returns c = merges_are_cut
