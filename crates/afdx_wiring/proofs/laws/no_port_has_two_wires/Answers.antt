use Rattle.afdx_wiring.proofs.ApartLemmas.{no_port_has_two_wires}
use Rattle.afdx_wiring.proofs.laws.no_port_has_two_wires.Goals as goal

pub returns : goal.returns
returns c = no_port_has_two_wires
