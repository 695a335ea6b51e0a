use Rattle.afdx_count.proofs.Copies.{end_counts_the_run}
use Rattle.afdx_count.proofs.laws.end_counts_the_run.Goals as goal

pub returns : goal.returns
returns c = end_counts_the_run
