use Rattle.afdx_spells.proofs.Parting.{all_counted}
use Rattle.afdx_spells.proofs.laws.spells_have_all.Goals as goal

pub returns : goal.returns
returns c = all_counted
