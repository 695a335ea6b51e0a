use Rattle.afdx_levels.proofs.Known.{allowed_is_a_level}
use Rattle.afdx_levels.proofs.laws.allowed_is_a_level.Goals as goal

pub returns : goal.returns
returns c = allowed_is_a_level
