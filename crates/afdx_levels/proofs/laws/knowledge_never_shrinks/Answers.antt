use Rattle.afdx_levels.proofs.Known.{knowledge_never_shrinks}
use Rattle.afdx_levels.proofs.laws.knowledge_never_shrinks.Goals as goal

pub returns : goal.returns
returns c = knowledge_never_shrinks
