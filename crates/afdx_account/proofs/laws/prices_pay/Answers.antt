use Rattle.afdx_units.specs.declared.police.Police.TheVariants.{Byte, Frame}
use Rattle.afdx_account.specs.Inner.Laws.{PricesPay}
use Rattle.afdx_account.specs.Inner.MeterLaws.{pays_for, frame_pays_for}
use Rattle.afdx_account.proofs.laws.prices_pay.Goals as goal

either : PricesPay
either Byte max_size bag jitter speed size least most = pays_for bag speed size least
either Frame max_size bag jitter speed size least most = frame_pays_for bag speed max_size size most

pub returns : goal.returns
returns c = either
