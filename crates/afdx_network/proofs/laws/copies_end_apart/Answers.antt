use Rattle.afdx_network.proofs.WatchedEnds.{copies_end_apart}
use Rattle.afdx_network.proofs.laws.copies_end_apart.Goals as goal

pub returns : goal.returns
returns c = copies_end_apart c.outputs_keep_to_lines.ensures
