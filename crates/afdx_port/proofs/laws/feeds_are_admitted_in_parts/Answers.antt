use Rattle.afdx_port.proofs.Admitted.{admitted_in_parts}
use Rattle.afdx_port.proofs.laws.feeds_are_admitted_in_parts.Goals as goal

pub returns : goal.returns
returns c = admitted_in_parts
