use Rattle.afdx_load.proofs.FitLemmas.{fits}
use Rattle.afdx_load.proofs.laws.accepted_where_each_port_fits.Goals as goal

pub returns : goal.returns
returns c = fits
