use Rattle.afdx_load.proofs.LawLemmas.{covers}
use Rattle.afdx_load.proofs.laws.factor_covers_overhead.Goals as goal

pub returns : goal.returns
returns c = covers
