use Rattle.afdx_core.proofs.Policed.{unpoliced}
use Rattle.afdx_core.proofs.Steps.{nobody's}
use Rattle.afdx_core.proofs.laws.filtered_touch_no_account.Goals as goal

pub returns : goal.returns
returns c = λ t rows latest row accounts none le agree. unpoliced t.links rows latest row accounts (nobody's t row.verdict none) le agree
