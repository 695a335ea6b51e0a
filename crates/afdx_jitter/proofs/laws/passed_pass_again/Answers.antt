use Rattle.afdx_jitter.proofs.Later.{passed_pass_again}
use Rattle.afdx_jitter.proofs.laws.passed_pass_again.Goals as goal

pub returns : goal.returns
returns g c = passed_pass_again
