use Rattle.afdx_table.proofs.TableHolds.{table_of-holds}
use Rattle.afdx_table.proofs.laws.tables_hold_their_texts.Goals as goal

pub returns : goal.returns
returns c = table_of-holds
