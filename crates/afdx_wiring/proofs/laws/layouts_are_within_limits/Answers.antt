use Rattle.afdx_wiring.proofs.LimitLemmas.{layouts_are_within_limits}
use Rattle.afdx_wiring.proofs.laws.layouts_are_within_limits.Goals as goal

pub returns : goal.returns
returns c = layouts_are_within_limits
