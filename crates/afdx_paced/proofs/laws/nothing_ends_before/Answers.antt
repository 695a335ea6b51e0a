use Rattle.afdx_paced.proofs.Ends.{nothing_ends_before}
use Rattle.afdx_paced.proofs.laws.nothing_ends_before.Goals as goal

pub returns : goal.returns
returns c = nothing_ends_before c.events_come_in_parts.ensures.sent c.events_follow_the_line.ensures.parts
