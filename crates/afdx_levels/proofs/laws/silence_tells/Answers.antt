use Rattle.afdx_levels.proofs.Known.{silence_tells}
use Rattle.afdx_levels.proofs.laws.silence_tells.Goals as goal

pub returns : goal.returns
returns c = silence_tells
