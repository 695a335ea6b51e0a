use Rattle.afdx_arguments.proofs.ArgumentLemmas.{refused}
use Rattle.afdx_arguments.proofs.arguments.matches_of.Goals as goal

pub returns-in-Err : goal.returns-in-Err
returns-in-Err c = refused _ c.in-Err.error c.refusal.result (c.in-Err.ensures.kinds c.requires.free) c.refusal.ensures
