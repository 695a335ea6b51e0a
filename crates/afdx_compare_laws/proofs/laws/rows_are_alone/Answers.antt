use Rattle.afdx_compare_laws.proofs.Alone.{rows_are_alone}
use Rattle.afdx_compare_laws.proofs.laws.rows_are_alone.Goals as goal

pub returns : goal.returns
returns c = rows_are_alone c.clean_frames_have_a_link.ensures c.links_are_at_their_places.ensures
