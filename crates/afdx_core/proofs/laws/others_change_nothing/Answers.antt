use Rattle.afdx_core.proofs.Isolating.{others_nothing}
use Rattle.afdx_core.proofs.laws.others_change_nothing.Goals as goal

pub returns : goal.returns
returns c = others_nothing c.next_joins_where_it_conforms.ensures c.accepted_tables_isolate.ensures
