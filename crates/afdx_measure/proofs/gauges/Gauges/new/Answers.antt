use Rattle.afdx_measure.proofs.Fresh.{fresh_gauges}
use Rattle.afdx_measure.proofs.gauges.Gauges.new.Goals as goal

pub returns : goal.returns
returns g c = fresh_gauges c.args.table.now c.in_ok-ports.ports c.in_ok-ports.ensures
