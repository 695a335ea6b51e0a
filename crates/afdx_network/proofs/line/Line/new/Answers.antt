use Rattle.std.proofs.Common.{refl}
use Rattle.afdx_network.proofs.OneLine.{line_new}
use Rattle.afdx_network.proofs.line.Line.new.Goals as goal

pub returns-clause-none : goal.returns-clause-none
returns-clause-none c = line_new _ refl refl
