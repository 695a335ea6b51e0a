use Rattle.afdx_port.proofs.Ends.{ends_within_a_second}
use Rattle.afdx_port.proofs.laws.ends_within_a_second.Goals as goal

pub returns : goal.returns
returns c = ends_within_a_second
