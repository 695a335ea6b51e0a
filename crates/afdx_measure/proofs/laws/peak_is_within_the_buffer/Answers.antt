use Rattle.afdx_measure.proofs.MeasureLaws.{peak_is_within}
use Rattle.afdx_measure.proofs.laws.peak_is_within_the_buffer.Goals as goal

pub returns : goal.returns
returns c = peak_is_within c.admitted_fit_in_order.ensures.fit
