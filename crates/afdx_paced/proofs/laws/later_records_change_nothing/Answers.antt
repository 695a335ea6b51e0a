use Rattle.afdx_paced.proofs.Puts.{later_records_change_nothing}
use Rattle.afdx_paced.proofs.laws.later_records_change_nothing.Goals as goal

pub returns : goal.returns
returns c = later_records_change_nothing c.later_arrivals_change_nothing.ensures c.merges_are_cut.ensures
