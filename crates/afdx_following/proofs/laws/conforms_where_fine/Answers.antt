use Rattle.afdx_following.proofs.Counting.{conforms_where_fine}
use Rattle.afdx_following.proofs.laws.conforms_where_fine.Goals as goal

pub returns : goal.returns
returns c = conforms_where_fine
