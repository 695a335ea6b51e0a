use Rattle.std.proofs.Common.{sym, ap, ◌∙◌}
use Rattle.afdx_account.specs.Account.{account_weight}
use Rattle.afdx_account.proofs.account.AccountMeter.offer.Goals as goal

pub returns-in-Byte-clause-weight : goal.returns-in-Byte-clause-weight
returns-in-Byte-clause-weight c = c.offer.ensures.weight ∙ ap account_weight (sym c.in-Byte.is)

pub returns-in-Frame-clause-weight : goal.returns-in-Frame-clause-weight
returns-in-Frame-clause-weight c = c.offer-in-Frame.ensures.weight ∙ ap account_weight (sym c.in-Frame.is)
