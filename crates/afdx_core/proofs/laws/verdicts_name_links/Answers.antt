use Rattle.afdx_core.proofs.Agree.{clean_true}
use Rattle.afdx_core.proofs.Isolating.{named_by}
use Rattle.afdx_core.proofs.laws.verdicts_name_links.Goals as goal

pub returns : goal.returns
returns c = record { named_link = named_by c.links_are_found.ensures; clean = clean_true }
