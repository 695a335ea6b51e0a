use Rattle.afdx_measure.proofs.ReportLaws.{range_is}
use Rattle.afdx_measure.proofs.laws.range_is_of_delays.Goals as goal

pub returns : goal.returns
returns c = range_is
