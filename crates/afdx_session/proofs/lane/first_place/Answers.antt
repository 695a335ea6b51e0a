use Rattle.std.proofs.Common.{rules}
use Rattle.afdx_session.proofs.lane.first_place.Goals as goal

pub returns-then-le : goal.returns-then-le
returns-then-le c = search rules

pub returns-else-le : goal.returns-else-le
returns-else-le c = search rules
