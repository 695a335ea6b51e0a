use Rattle.afdx_jitter.proofs.Jitter.{jitter_enough}
use Rattle.afdx_jitter.proofs.laws.jitter_enough.Goals as goal

pub returns : goal.returns
returns g c = jitter_enough
