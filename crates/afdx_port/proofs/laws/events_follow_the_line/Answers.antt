use Rattle.afdx_port.proofs.AtLine.{events_in_parts, events_follow}
use Rattle.afdx_port.proofs.laws.events_follow_the_line.Goals as goal

pub returns-clause-parts : goal.returns-clause-parts
returns-clause-parts c = events_in_parts

pub returns-clause-line : goal.returns-clause-line
returns-clause-line c = events_follow
