use Rattle.afdx_paced.proofs.Sending.{later_records_send_nothing}
use Rattle.afdx_paced.proofs.laws.later_records_send_nothing.Goals as goal

pub returns : goal.returns
returns c = later_records_send_nothing c.later_arrivals_change_nothing.ensures c.merges_are_cut.ensures
