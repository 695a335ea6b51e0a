use Rattle.afdx_count.proofs.Copies.{starts_with_none}
use Rattle.afdx_count.proofs.laws.starts_with_none.Goals as goal

pub returns : goal.returns
returns c = starts_with_none
