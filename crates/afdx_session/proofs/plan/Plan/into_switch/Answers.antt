use Rattle.std.proofs.Common.{rules}
use Rattle.afdx_session.proofs.plan.Plan.into_switch.Goals as goal

pub returns-in-Cleared : goal.returns-in-Cleared
returns-in-Cleared g c = search rules
