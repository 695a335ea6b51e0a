use Rattle.afdx_trace.proofs.Told.{lines_are_told}
use Rattle.afdx_trace.proofs.laws.lines_are_told.Goals as goal

pub returns : goal.returns
returns c = lines_are_told c.full_is_exact.ensures
