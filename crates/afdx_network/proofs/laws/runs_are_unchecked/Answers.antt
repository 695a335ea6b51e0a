use Rattle.afdx_network.proofs.Rest.{runs_are_unchecked}
use Rattle.afdx_network.proofs.laws.runs_are_unchecked.Goals as goal

pub returns : goal.returns
returns c = runs_are_unchecked
