use Rattle.std.proofs.Common.{refl}
use Rattle.afdx_measure.proofs.policing.Policing.new.Goals as goal

pub returns : goal.returns
returns g c = record { formed = c.fresh_spells.ensures.formed; spells = c.in_ok-fresh_spells.ensures.spells; count = refl; ends = refl }
