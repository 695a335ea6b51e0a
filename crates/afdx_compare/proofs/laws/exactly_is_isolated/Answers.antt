use Rattle.afdx_compare.proofs.Exactly.{exactly_is_isolated}
use Rattle.afdx_compare.proofs.laws.exactly_is_isolated.Goals as goal

pub returns : goal.returns
returns c =
    let level = c.headroom_is_a_level.ensures in
    exactly_is_isolated c.next_frame_joins_where_it_conforms.ensures level.credited level.decides level.debited c.clean_frames_have_a_link.ensures c.links_are_found.ensures
    c.at_rest_is_the_account.ensures.fates c.accepted_keeps_bounds.ensures c.nothing_is_scattered.ensures
