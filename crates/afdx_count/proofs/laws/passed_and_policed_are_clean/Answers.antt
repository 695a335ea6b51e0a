use Rattle.afdx_count.proofs.Sums.{passed_and_policed_are_clean}
use Rattle.afdx_count.proofs.laws.passed_and_policed_are_clean.Goals as goal

pub returns : goal.returns
returns c = passed_and_policed_are_clean
