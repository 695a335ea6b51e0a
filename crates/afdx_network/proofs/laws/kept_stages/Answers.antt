use Rattle.afdx_network.proofs.Weaker.{kept_stage}
use Rattle.afdx_network.proofs.laws.kept_stages.Goals as goal

pub returns : goal.returns
returns c = kept_stage
