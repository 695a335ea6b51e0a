use Rattle.afdx_filter.proofs.FirstCase.{is_first}
use Rattle.afdx_filter.proofs.laws.verdict_is_the_first_case.Goals as goal

pub returns : goal.returns
returns c = is_first
