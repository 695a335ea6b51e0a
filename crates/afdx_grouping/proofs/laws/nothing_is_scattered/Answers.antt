use Rattle.afdx_grouping.proofs.Scatter.{not_scattered, none_scatters}
use Rattle.afdx_grouping.proofs.laws.nothing_is_scattered.Goals as goal

pub returns : goal.returns
returns c = (not_scattered, none_scatters)
