use Rattle.std.proofs.Common.{[]}
use Rattle.afdx_account.proofs.Windows.{passed_after-push}
use Rattle.afdx_account.proofs.laws.next_joins_where_it_conforms.Goals as goal

pub returns : goal.returns
returns g c = λ frame_of t xs x. passed_after-push frame_of t [] xs x
