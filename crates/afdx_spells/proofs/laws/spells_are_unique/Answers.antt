use Rattle.afdx_spells.proofs.Parting.{unique}
use Rattle.afdx_spells.proofs.laws.spells_are_unique.Goals as goal

pub returns : goal.returns
returns c = λ gap frames parts h. unique gap frames parts h.all h.spells
