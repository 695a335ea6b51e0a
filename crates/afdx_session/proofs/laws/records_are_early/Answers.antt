use Rattle.afdx_session.proofs.Gathering.{records_are_early}
use Rattle.afdx_session.proofs.laws.records_are_early.Goals as goal

pub returns : goal.returns
returns c = records_are_early
