use Rattle.afdx_account.proofs.Windows.{passed_frames-push}
use Rattle.afdx_account.proofs.laws.next_frame_joins_where_it_conforms.Goals as goal

pub returns : goal.returns
returns c = passed_frames-push
