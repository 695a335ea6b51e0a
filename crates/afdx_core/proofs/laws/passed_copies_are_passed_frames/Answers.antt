use Rattle.afdx_core.proofs.Isolating.{passed_are}
use Rattle.afdx_core.proofs.laws.passed_copies_are_passed_frames.Goals as goal

pub returns : goal.returns
returns c = passed_are c.links_are_found.ensures c.passed_by_their_frames.ensures
