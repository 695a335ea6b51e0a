use Rattle.afdx_grouping.proofs.LesserBounds.{only_ports}
use Rattle.afdx_grouping.proofs.laws.only_ports_count.Goals as goal

pub returns : goal.returns
returns c = only_ports
