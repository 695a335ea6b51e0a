use Rattle.afdx_jitter.proofs.Way.{delays_add_up, begin_at_once}
use Rattle.afdx_jitter.proofs.laws.delays_add_up.Goals as goal

pub returns-clause-sums : goal.returns-clause-sums
returns-clause-sums c = delays_add_up

pub returns-clause-begin : goal.returns-clause-begin
returns-clause-begin c = begin_at_once
