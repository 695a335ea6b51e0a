use Rattle.afdx_paced.proofs.Leaves.{nothing_leaves_before}
use Rattle.afdx_paced.proofs.laws.nothing_leaves_before.Goals as goal

pub returns : goal.returns
returns c = nothing_leaves_before c.nothing_ends_before.ensures c.clean_frames_have_a_link.ensures c.verdicts_name_links.ensures c.service_is_of_items.ensures.sent
