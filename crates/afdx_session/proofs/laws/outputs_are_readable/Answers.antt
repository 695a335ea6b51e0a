use Rattle.afdx_session.proofs.Readable.{outputs_are_readable}
use Rattle.afdx_session.proofs.laws.outputs_are_readable.Goals as goal

pub returns : goal.returns
returns c = outputs_are_readable c.by_stamp_is_ordered.ensures c.ends_do_not_fall.ensures c.ends_within_a_second.ensures c.clean_frames_have_a_link.ensures c.verdicts_name_links.ensures
