use Rattle.afdx_jitter.proofs.Later.{later_conform}
use Rattle.afdx_jitter.proofs.laws.later_conform.Goals as goal

pub returns : goal.returns
returns c = later_conform
