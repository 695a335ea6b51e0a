use Rattle.afdx_isolation.proofs.Tables.{holds_backlog}
use Rattle.afdx_isolation.proofs.laws.buffers_hold_the_backlog.Goals as goal

pub returns : goal.returns
returns c =
    holds_backlog c.prices_pay.ensures c.asks_what_its_account_gives.ensures c.each_link_asks.ensures c.accepted_keeps_bounds.ensures c.none_is_full.ensures c.admitted_fit_in_order.ensures.fit
    c.buffers_serve_alike.ensures
    c.accepted_tables_isolate.ensures
