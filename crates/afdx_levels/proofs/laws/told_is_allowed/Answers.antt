use Rattle.afdx_levels.proofs.Told.{fate_may_be, told_is_allowed}
use Rattle.afdx_levels.proofs.laws.told_is_allowed.Goals as goal

pub returns-clause-each : goal.returns-clause-each
returns-clause-each c = fate_may_be

pub returns-clause-all : goal.returns-clause-all
returns-clause-all c = told_is_allowed
