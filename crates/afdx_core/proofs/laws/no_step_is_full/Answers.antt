use Rattle.afdx_core.proofs.Runs.{none_full}
use Rattle.afdx_core.proofs.laws.no_step_is_full.Goals as goal

pub returns : goal.returns
returns c = none_full c.feeds_are_admitted_in_parts.ensures c.links_are_found.ensures c.accepted_tables_isolate.ensures
