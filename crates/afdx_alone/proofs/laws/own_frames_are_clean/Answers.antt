use Rattle.afdx_alone.proofs.OwnLemmas.{own_is_clean}
use Rattle.afdx_alone.proofs.laws.own_frames_are_clean.Goals as goal

pub returns : goal.returns
returns c = own_is_clean
