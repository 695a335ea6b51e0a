use Rattle.afdx_compare.proofs.OwnRuns.{our_runs_keep_to_it}
use Rattle.afdx_compare.proofs.laws.our_runs_keep_to_it.Goals as goal

pub returns : goal.returns
returns c = our_runs_keep_to_it c.exactly_is_isolated.ensures
