use Rattle.afdx_origins.proofs.One.{origin_is_one}
use Rattle.afdx_origins.proofs.laws.origin_is_one.Goals as goal

pub returns : goal.returns
returns c = origin_is_one
