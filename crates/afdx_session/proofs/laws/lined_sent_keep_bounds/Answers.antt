use Rattle.afdx_session.proofs.Lined.{lined_sent}
use Rattle.afdx_session.proofs.laws.lined_sent_keep_bounds.Goals as goal

pub returns : goal.returns
returns c = lined_sent c.by_stamp_is_ordered.ensures (record { have_link = c.clean_frames_have_a_link.ensures; verdicts = c.verdicts_name_links.ensures; links = c.links_are_found.ensures })
    c.merged_is_a_merge.ensures c.accepted_tables_isolate.ensures c.lined_runs_keep_bounds.ensures
