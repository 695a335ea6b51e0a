use Rattle.std.proofs.Common.{[]}
use Rattle.afdx_account.proofs.Windows.{map-passed_after}
use Rattle.afdx_account.proofs.laws.passed_by_their_frames.Goals as goal

pub returns : goal.returns
returns g c = λ frame_of t xs. map-passed_after frame_of t [] xs
