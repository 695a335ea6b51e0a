use Rattle.afdx_account.proofs.Early.{early_is_least, early_by_the_level}
use Rattle.afdx_account.proofs.laws.early_is_least.Goals as goal

pub returns-clause-least : goal.returns-clause-least
returns-clause-least c = early_is_least

pub returns-clause-by_level : goal.returns-clause-by_level
returns-clause-by_level c = early_by_the_level
