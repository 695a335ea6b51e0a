use Rattle.afdx_grouping.proofs.Scatter.{longer_window}
use Rattle.afdx_grouping.proofs.laws.later_is_a_longer_window.Goals as goal

pub returns : goal.returns
returns c = longer_window
