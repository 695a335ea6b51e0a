use Rattle.afdx_account.specs.Inner.MeterLaws.{pays_for}
use Rattle.afdx_account.proofs.laws.byte_prices_pay.Goals as goal

pub returns : goal.returns
returns c = λ max_size bag jitter speed size least. pays_for bag speed size least
