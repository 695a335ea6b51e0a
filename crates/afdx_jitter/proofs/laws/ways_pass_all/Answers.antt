use Rattle.afdx_jitter.proofs.Way.{ways_pass_all}
use Rattle.afdx_jitter.proofs.laws.ways_pass_all.Goals as goal

pub returns : goal.returns
returns c = ways_pass_all
