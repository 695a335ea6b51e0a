use Rattle.afdx_compare_laws.proofs.Less.{less_latency_is_kept_too}
use Rattle.afdx_compare_laws.proofs.laws.less_latency_is_kept_too.Goals as goal

pub returns : goal.returns
returns c = less_latency_is_kept_too
