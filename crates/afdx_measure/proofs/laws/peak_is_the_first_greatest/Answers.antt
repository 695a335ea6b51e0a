use Rattle.afdx_measure.proofs.ReportLaws.{peak_is}
use Rattle.afdx_measure.proofs.laws.peak_is_the_first_greatest.Goals as goal

pub returns : goal.returns
returns c = peak_is
