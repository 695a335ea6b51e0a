use Rattle.afdx_core.proofs.Isolating.{isolated}
use Rattle.afdx_core.proofs.laws.accepted_tables_isolate.Goals as goal

pub returns : goal.returns
returns c = isolated c.links_are_found.ensures c.clean_frames_have_a_link.ensures c.offers_what_the_policing_passes.ensures c.accepted_tables_isolate.ensures
