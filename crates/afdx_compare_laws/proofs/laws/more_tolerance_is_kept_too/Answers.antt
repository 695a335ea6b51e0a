use Rattle.afdx_compare_laws.proofs.Less.{more_tolerance_is_kept_too}
use Rattle.afdx_compare_laws.proofs.laws.more_tolerance_is_kept_too.Goals as goal

pub returns : goal.returns
returns c = more_tolerance_is_kept_too c.at_rest_is_the_account.ensures.fates c.noise_is_allowed.ensures.at_rest c.clean_frames_have_a_link.ensures c.links_are_found.ensures
