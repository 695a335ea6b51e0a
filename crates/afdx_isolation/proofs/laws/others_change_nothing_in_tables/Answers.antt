use Rattle.afdx_isolation.proofs.Tables.{others_in_tables}
use Rattle.afdx_isolation.proofs.laws.others_change_nothing_in_tables.Goals as goal

pub returns : goal.returns
returns c = others_in_tables c.passed_by_their_frames.ensures c.accepted_tables_isolate.ensures
