use Rattle.afdx_compare_laws.proofs.Surplus.{no_surplus_hides}
use Rattle.afdx_compare_laws.proofs.laws.no_surplus_hides.Goals as goal

pub returns : goal.returns
returns c = no_surplus_hides c.surplus_is_jitter.ensures c.clean_frames_have_a_link.ensures c.links_are_found.ensures
