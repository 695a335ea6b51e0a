use Rattle.afdx_account.specs.Inner.MeterLaws.{frame_pays_for}
use Rattle.afdx_account.proofs.laws.frame_prices_pay.Goals as goal

pub returns : goal.returns
returns c = λ max_size bag jitter speed size most. frame_pays_for bag speed max_size size most
