use Rattle.afdx_isolation.proofs.Tables.{isolated_at}
use Rattle.afdx_isolation.proofs.laws.accepted_tables_isolate.Goals as goal

pub returns : goal.returns
returns c = isolated_at c.prices_pay.ensures c.asks_what_its_account_gives.ensures c.each_link_asks.ensures c.accepted_keeps_bounds.ensures c.isolates_so_far.ensures
