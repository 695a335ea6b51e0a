use Rattle.std.proofs.Common.{refl}
use Rattle.afdx_table.proofs.rows.nanos.Goals as goal

pub returns : goal.returns
returns c = refl
