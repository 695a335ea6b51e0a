use Rattle.afdx_port.proofs.AtLine.{line_goes_on}
use Rattle.afdx_port.proofs.laws.line_goes_on.Goals as goal

pub returns : goal.returns
returns c = λ s t u items le come. line_goes_on s t items u le come
