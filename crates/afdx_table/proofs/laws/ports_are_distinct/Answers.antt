use Rattle.afdx_table.proofs.PortsDistinct.{ports_are_distinct}
use Rattle.afdx_table.proofs.laws.ports_are_distinct.Goals as goal

pub returns : goal.returns
returns c = ports_are_distinct
