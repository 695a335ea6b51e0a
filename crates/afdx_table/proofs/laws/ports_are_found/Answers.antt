use Rattle.afdx_table.proofs.PortsFound.{ports_are_found}
use Rattle.afdx_table.proofs.laws.ports_are_found.Goals as goal

pub returns : goal.returns
returns c = ports_are_found
