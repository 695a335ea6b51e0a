use Rattle.afdx_isolation.proofs.Tables.{offers}
use Rattle.afdx_isolation.proofs.laws.offers_what_the_policing_passes.Goals as goal

pub returns : goal.returns
returns c = λ t well row link in_table before x same. offers t row well link in_table before x same
