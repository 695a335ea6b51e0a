use Rattle.afdx_levels.proofs.Noise.{noise_is_allowed_at_rest, noise_is_allowed}
use Rattle.afdx_levels.proofs.laws.noise_is_allowed.Goals as goal

pub returns-clause-at_rest : goal.returns-clause-at_rest
returns-clause-at_rest c = noise_is_allowed_at_rest

pub returns-clause-unknown : goal.returns-clause-unknown
returns-clause-unknown c = noise_is_allowed
