use Rattle.afdx_spells.proofs.Parting.{have_all}
use Rattle.afdx_spells.proofs.laws.parts_are_spells.Goals as goal

pub returns : goal.returns
returns c = have_all
