use Rattle.afdx_levels.proofs.Surplus.{surplus_is_jitter}
use Rattle.afdx_levels.proofs.laws.surplus_is_jitter.Goals as goal

pub returns : goal.returns
returns c = surplus_is_jitter c.steps_pass_what_conforms.ensures
